-- Along a run every live clause stays true wherever the first ones are; so an accepted empty clause refutes them.
use Rattle.std.proofs.Common.{not, T, eqb, List, [], ◌∷◌, sym, subst, ⊎_elim}
use Rattle.text.specs.Lists.{Each}
use Rattle.problem.specs.Cudf.{Chosen}
use Rattle.text.specs.Literals.{Clause}
use Rattle.clauses.specs.Propagation.{Held}
use Rattle.clauses.specs.ClauseBase.{Meaning, with_added}
use Rattle.certificate.specs.Stream.{Step, add, delete, Placed, Ending, finished, broken}
use Rattle.verdict.specs.declared.reply.Reply.{Reply}
use Rattle.verdict.specs.declared.reply.Reply.TheVariants.{Taken, Refused, Nothing}
use Rattle.certificate.specs.Reading.{Memory}
use Rattle.verdict.specs.Session.{Desk, Shown, after, Judged, AskedOf, Run, is_empty_addition, added_all}
use Rattle.text.proofs.Members.{or_cases, each_append, each_keep}
use Rattle.verdict.proofs.Rup.{True, AllTrue, shown_true}

added_true : (A : Chosen) (m : Meaning) (c : Clause) → AllTrue A m.live → True A c → AllTrue A (with_added m c).live
added_true A m c a t = each_append (λ h. True A h.literals) m.live _ a (t, tt)

-- the clauses of an opening are the live ones
pub opening_true : (A : Chosen) (m : Meaning) (cs : List Clause) → AllTrue A m.live → Each (True A) cs → AllTrue A (added_all m cs).live
opening_true A m [] a t = a
opening_true A m (c ∷ cs) a t = opening_true A (with_added m c) cs (added_true A m c a t.0) t.1

after_true : (A : Chosen) (m : Meaning) (s : Step) → Shown m.live s → AllTrue A m.live → AllTrue A (after m s).live
after_true A m (add c h) z a = added_true A m c a (shown_true A m.live c h a z)
after_true A m (delete n) z a = each_keep (λ h. True A h.literals) (λ h. not (eqb h.number n)) m.live a

-- no empty clause is shown while the live clauses are all true
not_empty : (A : Chosen) (live : List Held) (s : Step) → Shown live s → AllTrue A live → T (is_empty_addition s) → ⊥
not_empty A live (add [] h) z a e = shown_true A live [] h a z
not_empty A live (add (l ∷ ls) h) z a e = e
not_empty A live (delete n) z a e = e

-- a desk whose clauses are all true, and none of them empty
abbrev pub Sat : Chosen → Desk → Type 0
Sat A d = AllTrue A d.base.live × (T d.emptied → ⊥)

judged_true : (A : Chosen) (k : Memory) (d d' : Desk) (p : Placed) (ps : List Placed) (r : Reply) → Judged k d p ps r d' → Sat A d → Sat A d'
judged_true A k d d' p ps Taken j a = subst (Sat A) (sym j.2) (
  after_true A d.base p.step j.1.2 a.0,
  λ e. ⊎_elim a.1 (not_empty A d.base.live p.step j.1.2 a.0) (or_cases d.emptied (is_empty_addition p.step) e),
)
judged_true A k d d' p ps (Refused f n) j a = subst (Sat A) (sym j.2) a
judged_true A k d d' p ps Nothing j a = absurd j

asked_true : (A : Chosen) (k : Memory) (d d' : Desk) (ps : List Placed) (e : Ending) (r : Reply) → AskedOf k d ps e r d' → Sat A d → Sat A d'
asked_true A k d d' (p ∷ ps) e r x a = judged_true A k d d' p ps r x a
asked_true A k d d' [] (broken p) r x a = subst (Sat A) (sym x.1) a
asked_true A k d d' [] finished r x a = subst (Sat A) (sym x.1) a

pub run_true : (A : Chosen) (k : Memory) (d d' : Desk) (rs : List Reply) → Run k d rs d' → Sat A d → Sat A d'
run_true A k d d' [] x a = subst (Sat A) (sym x) a
run_true A k d d' (r ∷ rs) x a = run_true A k x.0 d' rs x.1.1 (asked_true A k d x.0 d.source.steps d.source.ending r x.1.0 a)
