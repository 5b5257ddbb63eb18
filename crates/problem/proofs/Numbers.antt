-- The numbers of stanzas.
use Rattle.std.proofs.Common.{◌≡◌, ℕ, zero, suc, ◌+◌, ◌-◌, ◌<◌, ◌≤◌, List, [], ◌∷◌, length, get_or, sym, refl, ap, ◌∙◌, add-zero, arith}
use Rattle.text.specs.Lists.{Each}
use Rattle.text.proofs.Members.{each_weaker}
use Rattle.problem.specs.Cudf.{Problem, Package, Numbered, numbered, stanzas}

-- the variable of a negative literal
pub back : (v : ℕ) → 1 ≤ v → suc (v - 1) ≡ v
back v h = omega arith

pub numbered_from : (k : ℕ) (ps : List Package) → Each (λ i. k ≤ i.number) (numbered k ps)
numbered_from k [] = tt
numbered_from k (p ∷ ps) = (omega arith, each_weaker (λ i. suc k ≤ i.number) (λ i. k ≤ i.number) (λ i h. omega arith) (numbered (suc k) ps) (numbered_from (suc k) ps))

pub stanzas_from_one : (q : Problem) → Each (λ i. 1 ≤ i.number) (stanzas q)
stanzas_from_one q = numbered_from 1 q.packages

pub numbered_at : (k i : ℕ) (ps : List Package) (d : Numbered) (e : Package) → i < length ps → get_or (numbered k ps) i d ≡ record { number = k + i; stanza = get_or ps i e }
numbered_at k i [] d e l = absurd (omega arith)
numbered_at k zero (p ∷ ps) d e l = ap (λ n. record { number = n; stanza = p }) (sym (add-zero k))
numbered_at k (suc i) (p ∷ ps) d e l = numbered_at (suc k) i ps d e (omega arith) ∙ ap (λ n. record { number = n; stanza = get_or ps i e }) (omega arith)

pub numbered-length : (k : ℕ) (ps : List Package) → length (numbered k ps) ≡ length ps
numbered-length k [] = refl
numbered-length k (p ∷ ps) = ap suc (numbered-length (suc k) ps)
