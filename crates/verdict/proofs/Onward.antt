-- Steps asked one after the other, up to the first reply that ends them.
use Rattle.std.proofs.Common.{◌≡◌, suc, not, T, subst}
use Rattle.certificate.specs.Reading.{Memory}
use Rattle.verdict.specs.Session.{Desk, Asked}
use Rattle.verdict.specs.Onward.{Onward}
use Rattle.verdict.specs.declared.reply.Reply.{Reply}
use Rattle.verdict.specs.declared.reply.Reply.TheVariants.{Taken}

-- from here on it comes to what it comes to from the start
pub record Leads (k : Memory) (d dᵢ : Desk) : Type 0 where
  pub on : (r : Reply) (d' : Desk) → Onward k dᵢ r d' → Onward k d r d'

pub leads_more : (k k' : Memory) (d dᵢ next : Desk) → k' ≡ k → T (not dᵢ.emptied) → Asked k' dᵢ Taken next → Leads k d dᵢ → Leads k d next
leads_more k k' d dᵢ next e n a f =
    record { on = λ r d' w. f.on r d' (record { accepted = suc w.accepted; asked = (next, (n, subst (λ y. Asked y dᵢ Taken next) e a, w.asked)) }) }
