-- The policies of a client's calls.
use Rattle.std.specs.Prelude.{ℕ, Bool, true, false}
use Rattle.r2_header.specs.Policy.{fixed, jbsq, replicated, replicated_read}
use Rattle.hc_text.specs.declared.policy.Policy.{Policy}
use Rattle.hc_text.specs.declared.policy.Policy.TheVariants.{Fixed, Jbsq, Replicated}

-- the policy number of a call, by whether it only reads
abbrev pub policy_number : Policy → Bool → ℕ
policy_number Fixed read = fixed
policy_number Jbsq read = jbsq
policy_number Replicated false = replicated
policy_number Replicated true = replicated_read
