-- What a turn counts, in the book's ledgers and on the account of its pass.
use Rattle.std.proofs.Common.{◌≡◌, ◌+◌, ℕ, List, refl, sym, subst, ap, ◌∙◌, arith}
use Rattle.r2_base.specs.declared.datagram.Datagram.{Datagram}
use Rattle.r2_base.specs.declared.event.Event.{Event}
use Rattle.r2_jbsq.specs.State.{RouterState, slots_of}
use Rattle.r2_jbsq.specs.Turns.{GrowsByOne}
use Rattle.r2_desk.specs.declared.totals.Totals.{Totals}
use Rattle.r2_desk.specs.Counts.{Amounts, GainsAtMostOne, GrowsWithTurns, Holding, IsPass, added, amounts, counting, counts_of, gained, grown, more, tally}
use Rattle.r2_desk.specs.States.{BookState, PassState}
use Rattle.r2_desk.specs.Trails.{IsBook, IsTrailOf}
use Rattle.r2_desk.specs.Turns.{IsOneTurn}

pub amounts-same : (t t' s s' a a' f f' w w' : ℕ) → t ≡ t' → s ≡ s' → a ≡ a' → f ≡ f' → w ≡ w' → amounts t s a f w ≡ amounts t' s' a' f' w'
amounts-same t t' s s' a a' f f' w w' e e' e'' e''' e'''' = rw (e, e', e'', e''', e'''') refl

-- the counts of a router grow by at most one in a turn
pub gains_one : (r r' : RouterState) (turns turns' : ℕ) → GrowsByOne r r' → GainsAtMostOne (tally r turns) (tally r' turns')
gains_one r r' turns turns' k =
    record {
      accepted = k.accepted;
      one_accepted = k.one_accepted;
      forwarded = k.forwarded;
      one_forwarded = k.one_forwarded;
      answered = k.answered;
      one_answered = k.one_answered;
    }

-- so no count of a pass outgrows its turns
pub few_more : (made before after : Totals) → GrowsWithTurns made → GainsAtMostOne before after → GrowsWithTurns (more made (gained before after))
few_more made before after few k =
    record {
      accepted = omega (arith, few.accepted, k.accepted, k.one_accepted);
      forwarded = omega (arith, few.forwarded, k.forwarded, k.one_forwarded);
      answered = omega (arith, few.answered, k.answered, k.one_answered);
    }

-- what the ledgers say of a book after a turn
book-counted : (b b' : BookState) → b'.turns ≡ b.turns + 1 → b'.router.setup ≡ b.router.setup → GrowsByOne b.router b'.router
    → added (counts_of b) (grown b.router b'.router) ≡ counts_of b'
book-counted b b' turns setup k =
    amounts-same _ _ _ _ _ _ _ _ _ _ (sym turns) (ap slots_of (sym setup)) (omega (arith, k.accepted)) (omega (arith, k.forwarded)) (omega (arith, k.answered))

-- the book keeps its facts in a turn
pub book_turns : (b b' : BookState) (books books' : Amounts) (most : ℕ) (event : Event) (sends : List Datagram) → IsBook b most books
    → IsOneTurn b.router event sends b'.router → b'.turns ≡ b.turns + 1 → books' ≡ added books (grown b.router b'.router)
    → (IsTrailOf b.router b.turns most b.trail → IsTrailOf b'.router (b.turns + 1) most b'.trail) → IsBook b' most books'
book_turns b b' books books' most event sends k turn turns counts kept =
    record {
      counted = counts ∙ (ap (λ (a : Amounts). added a (grown b.router b'.router)) k.counted ∙ book-counted b b' turns turn.setup turn.grows);
      turned = turn.turns ∙ (ap (λ (n : ℕ). n + 1) k.turned ∙ sym turns);
      trail = subst (λ (n : ℕ). IsTrailOf b'.router n most b'.trail) (sym turns) (kept k.trail);
    }

-- so does the pass
pub pass_turns : (p p' : PassState) (share share' : Holding) (by : Totals) → IsPass p share
    → share' ≡ counting share by → p'.made ≡ more p.made by → p'.slots ≡ p.slots
    → GrowsWithTurns p'.made → IsPass p' share'
pass_turns p p' share share' by k held made slots few =
    record {
      parts = ap (λ (h : Holding). h.parts) held ∙ k.parts;
      counted = ap (λ (h : Holding). h.held) held
          ∙ (ap (λ (a : Amounts). added a by) k.counted
          ∙ amounts-same _ _ _ _ _ _ _ _ _ _ (sym (ap (λ (t : Totals). t.turns) made)) (sym slots) (sym (ap (λ (t : Totals). t.accepted) made))
          (sym (ap (λ (t : Totals). t.forwarded) made)) (sym (ap (λ (t : Totals). t.answered) made)));
      few = few;
    }
