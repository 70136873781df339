-- What passes over a link in one stretch and then in another.
use Rattle.std.proofs.Common.{List, [], ◌++◌, refl, ◌∙◌}
use Rattle.r2_base.specs.declared.datagram.Datagram.{Datagram}
use Rattle.r2_link.specs.declared.lane.Item.{Item}
use Rattle.r2_link.specs.Links.{LinkPasses, LinkTold}
use Rattle.r2_link.proofs.Told.{Gains-nil, Gains-then, IsKept-refl, IsKept-trans, Takes-nil, Takes-then}

pub LinkPasses-nothing : (a : LinkTold) → LinkPasses a a [] []
LinkPasses-nothing a = record { took = Takes-nil a.left; gave = Gains-nil a.sent; lanes = IsKept-refl a.lanes; me = refl }

pub LinkPasses-then : (a b c : LinkTold) (is js : List Item) (ds es : List Datagram)
    → LinkPasses a b is ds → LinkPasses b c js es → LinkPasses a c (is ++ js) (ds ++ es)
LinkPasses-then a b c is js ds es p q = record {
  took = Takes-then a.left b.left c.left is js p.took q.took;
  gave = Gains-then a.sent b.sent c.sent ds es p.gave q.gave;
  lanes = IsKept-trans a.lanes b.lanes c.lanes p.lanes q.lanes;
  me = q.me ∙ p.me;
}
