use Rattle.r2_frag.proofs.Counted.{indexed-more, indexed-moved, indexed-room, moved-room, moved-some}
use Rattle.r2_frag.proofs.kept.keep_in.Goals as goal

pub count_more-requires-clause-room : goal.count_more-requires-clause-room
count_more-requires-clause-room c =
    indexed-room c.args.replies.now c.args.counts.now c.bucket_of-bucket.result c.requires c.bucket_of-bucket.ensures.within

pub count_less-requires-clause-some : goal.count_less-requires-clause-some
count_less-requires-clause-some c =
    moved-some c.args.replies.now c.args.counts.now c.args.reply c.in-Some.oldest c.bucket_of.result c.requires c.in-Some.ensures.value c.bucket_of.ensures.bucket

pub count_more-requires-in-Some-clause-room : goal.count_more-requires-in-Some-clause-room
count_more-requires-in-Some-clause-room c =
    moved-room c.args.replies.now c.args.counts.now c.count_less.new.counts c.args.reply c.in-Some.oldest c.bucket_of.result c.bucket_of-bucket.result c.requires c.in-Some.ensures.value c.bucket_of.ensures.bucket c.count_less.ensures c.bucket_of-bucket.ensures.within

pub returns-in-None-clause-indexed : goal.returns-in-None-clause-indexed
returns-in-None-clause-indexed c =
    indexed-more c.args.replies.now c.push_back.new.self c.args.counts.now c.count_more.new.counts c.args.reply c.bucket_of-bucket.result c.requires c.in-None.ensures.items c.in-None.ensures.value c.bucket_of-bucket.ensures.bucket c.count_more.ensures

pub returns-in-Some-clause-indexed : goal.returns-in-Some-clause-indexed
returns-in-Some-clause-indexed c =
    indexed-moved c.args.replies.now c.push_back.new.self c.args.counts.now c.count_less.new.counts c.count_more-in-Some.new.counts c.args.reply c.in-Some.oldest c.bucket_of.result c.bucket_of-bucket.result c.requires c.in-Some.ensures.items c.in-Some.ensures.value c.bucket_of.ensures.bucket c.count_less.ensures c.bucket_of-bucket.ensures.bucket c.count_more-in-Some.ensures
