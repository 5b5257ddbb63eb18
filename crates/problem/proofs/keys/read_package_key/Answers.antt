use Rattle.std.proofs.Common.{codes, sym, ap, arith, rules}
use Rattle.std.proofs.lemmas.Slice.Eq.{text_from_reads}
use Rattle.problem.specs.Keys.{package_key}
use Rattle.problem.proofs.keys.read_package_key.Goals as goal

pub returns-in-version : goal.returns-in-version
returns-in-version c = ap package_key (sym (text_from_reads c.args.name.now (codes "version") (omega arith) (search rules)))

pub returns-in-depends : goal.returns-in-depends
returns-in-depends c = ap package_key (sym (text_from_reads c.args.name.now (codes "depends") (omega arith) (search rules)))

pub returns-in-conflicts : goal.returns-in-conflicts
returns-in-conflicts c = ap package_key (sym (text_from_reads c.args.name.now (codes "conflicts") (omega arith) (search rules)))

pub returns-in-installed : goal.returns-in-installed
returns-in-installed c = ap package_key (sym (text_from_reads c.args.name.now (codes "installed") (omega arith) (search rules)))
