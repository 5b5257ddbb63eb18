-- The law is not empty: by its hints the worked session shows the empty clause.
use Rattle.std.proofs.Common.{T, [], ◌∷◌, ◌++◌, ℤ, refl}
use Rattle.text.specs.Literals.{Clause, lit, neg}
use Rattle.problem.specs.Examples.{cans, among}
use Rattle.problem.proofs.Agreement.{plans_agree}
use Rattle.clauses.specs.Propagation.{Values, Unit', Chain, denied, all_false, is_unset, value}
use Rattle.certificate.specs.Stream.{finished}
use Rattle.verdict.specs.declared.reply.Reply.TheVariants.{Taken}
use Rattle.verdict.specs.WorkedSession.{new_shift, blank, opened, memory, hinted_step, WorkedSession}
use Rattle.verdict.proofs.Law.{law}

at : {f : Values} (before : Clause) (l : ℤ) (after : Clause) → T (is_unset (value f l)) → T (all_false f before) → T (all_false f after) → Unit' f (before ++ l ∷ after) l
at before l after u b a = record { before = before; after = after; parts = refl; unset = u; before_false = b; after_false = a }

chain : Chain opened.live (denied []) (5 ∷ 4 ∷ 10 ∷ 12 ∷ 16 ∷ 20 ∷ 22 ∷ 23 ∷ [])
chain = (
  lit 4 ∷ [],
  lit 4,
  (
    refl,
    at [] (lit 4) [] tt tt tt,
    (
      lit 2 ∷ neg 4 ∷ [],
      lit 2,
      (
        refl,
        at [] (lit 2) (neg 4 ∷ []) tt tt tt,
        (
          neg 2 ∷ lit 7 ∷ [],
          lit 7,
          (
            refl,
            at (neg 2 ∷ []) (lit 7) [] tt tt tt,
            (
              neg 4 ∷ lit 8 ∷ [],
              lit 8,
              (
                refl,
                at (neg 4 ∷ []) (lit 8) [] tt tt tt,
                (
                  neg 7 ∷ lit 12 ∷ [],
                  lit 12,
                  (
                    refl,
                    at (neg 7 ∷ []) (lit 12) [] tt tt tt,
                    (
                      neg 8 ∷ neg 12 ∷ lit 15 ∷ [],
                      lit 15,
                      (
                        refl,
                        at (neg 8 ∷ neg 12 ∷ []) (lit 15) [] tt tt tt,
                        (
                          neg 9 ∷ [],
                          neg 9,
                          (
                            refl,
                            at [] (neg 9) [] tt tt tt,
                            (lit 9 ∷ neg 15 ∷ [], (refl, tt)),
                          ),
                        ),
                      ),
                    ),
                  ),
                ),
              ),
            ),
          ),
        ),
      ),
    ),
  ),
)

pub worked : WorkedSession
worked = record {
  variables = refl;
  clauses = refl;
  fits = tt;
  good = ((tt, tt, chain, tt), tt);
  means = law.sound cans new_shift blank (record { steps = hinted_step ∷ []; ending = finished }) memory (Taken ∷ []) _ ((plans_agree.clauses cans (among (2 ∷ 4 ∷ []))).0 tt) (_, ((refl, (tt, tt, chain, tt), refl), refl)) tt;
}
