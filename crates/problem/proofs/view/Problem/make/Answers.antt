use Rattle.std.proofs.Common.{◌≡◌, ℕ, ◌<◌, length, get_or, take, sym, subst, arith}
use Rattle.std.proofs.lemmas.List.{length-take-le}
use Rattle.problem.specs.Rows.{no_package, no_constraint, PackageOk, ConstraintOk, Spanned}
use Rattle.problem.proofs.Closing.{spanned_given}
use Rattle.problem.proofs.Holding.{at_first}
use Rattle.problem.proofs.view.Problem.make.Goals as goal

pub invariant_of-result : goal.invariant_of-result
invariant_of-result c =
    let text = c.args.text.now in
    let ps = c.args.packages.now in
    let cs = c.args.constraints.now in
    let n = c.args.count in
    let a = c.args.asked in
    let m : length (take a cs) ≡ a = length-take-le a cs c.requires.constraints.within in
    let q : length (take n ps) ≡ n = length-take-le n ps c.requires.packages.within in
    let p : (k : ℕ) → k < n → PackageOk (length text) (length (take a cs)) (get_or ps k no_package) = λ k lt. at_first (PackageOk (length text) (length (take a cs))) ps n k no_package c.requires.packages.within c.requires.good.packages lt in
    let r : (k : ℕ) → k < a → ConstraintOk (length text) (get_or cs k no_constraint) = λ k lt. at_first (ConstraintOk (length text)) cs a k no_constraint c.requires.constraints.within c.requires.good.constraints lt in
    let i : Spanned (length (take a cs)) c.unwrap_or.result = subst (Spanned (length (take a cs))) (sym c.unwrap_or.ensures) (spanned_given (length (take a cs)) c.args.wanted.install c.requires.good.request.install) in
    let j : Spanned (length (take a cs)) c.unwrap_or-2.result = subst (Spanned (length (take a cs))) (sym c.unwrap_or-2.ensures) (spanned_given (length (take a cs)) c.args.wanted.remove c.requires.good.request.remove) in
    record {
      packages_held = c.requires.packages.within;
      packages_few = omega (arith, c.requires.good.few);
      packages_blank = c.requires.packages.blank;
      constraints_held = c.requires.constraints.within;
      constraints_few = omega (arith, c.requires.good.asked);
      constraints_blank = c.requires.constraints.blank;
      names = λ k lt. (p k lt).name;
      versions_least = λ k lt. (p k lt).least;
      versions_most = λ k lt. (p k lt).most;
      depends = λ k lt. omega (arith, (p k lt).depends);
      conflicts = λ k lt. omega (arith, (p k lt).conflicts);
      constraint_names = λ k lt. (r k lt).name;
      constraint_versions = λ k lt. (r k lt).most;
      install_held = omega arith;
      remove_held = omega arith;
      distinct = c.requires.good.once;
    }
