use Rattle.std.proofs.Common.{sym, rules}
use Rattle.clauses.proofs.Scanning.{scan_true, scan_false, scan_second, scan_first, scan_none, scan_one}
use Rattle.clauses.proofs.scan.status_of.Goals as goal
use Rattle.clauses.proofs.scan.status_of.Goals.{in-Some-false, in-None}

pub returns-in-Some-true : goal.returns-in-Some-true
returns-in-Some-true c =
    let e = c.in-Some-true.ensures in
    scan_true _ _ _ _ _ c.loop-literal.invariant c.loop-literal-test.true (search rules) (cc)

pub returns-in-None-2 : goal.returns-in-None-2
returns-in-None-2 c =
    scan_second _ _ _ _ _ c.loop-literal.invariant (sym c.if-is_none.ensures) c.loop-literal-test.true (search rules) c.in-None-2.ensures

pub loop-literal-preserved : goal.loop-literal-preserved
loop-literal-preserved c = elim c.match-read.branch [ in-Some-false w ↦ let e = w.in-Some-false.ensures in scan_false _ _ _ _ _ c.loop-literal.invariant _ w.found-is c.loop-literal-test.true (search rules) (cc) | in-None w ↦ scan_first _ _ _ _ _ c.loop-literal.invariant _ (sym w.if-is_none.ensures) w.found-is c.loop-literal-test.true (search rules) w.in-None.ensures ]

pub returns-in-Some : goal.returns-in-Some
returns-in-Some c = scan_one _ _ _ _ _ c.loop-literal.invariant _ c.loop-literal-test.false c.in-Some.is (search rules)

pub returns-in-None-found : goal.returns-in-None-found
returns-in-None-found c = scan_none _ _ _ _ _ c.loop-literal.invariant c.loop-literal-test.false c.in-None-found.is
