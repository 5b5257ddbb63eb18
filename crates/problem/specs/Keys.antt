-- The names of properties, by the place where they may stand, and the values `true` and `false`.
use Rattle.std.specs.Prelude.{ℕ, Bool, true, false, cond, List, Some, None, codes, Option}
use Rattle.std.specs.Str.{bytes_eq}
use Rattle.problem.specs.declared.keys.FirstKey.{FirstKey}
use Rattle.problem.specs.declared.keys.FirstKey.TheVariants.{Package, Request}
use Rattle.problem.specs.declared.keys.PackageKey.{PackageKey}
use Rattle.problem.specs.declared.keys.PackageKey.TheVariants.{Version, Depends, Conflicts, Installed}
use Rattle.problem.specs.declared.keys.RequestKey.{RequestKey}
use Rattle.problem.specs.declared.keys.RequestKey.TheVariants.{Install, Remove}
use Rattle.problem.specs.declared.keys.AnswerKey.{AnswerKey}
use Rattle.problem.specs.declared.keys.AnswerKey.TheVariants.{Version as ItsVersion, Installed as IsInstalled}

-- the first line of a stanza
abbrev pub first_key : List ℕ → Option FirstKey
first_key n = cond (bytes_eq n (codes "package")) (Some Package) (cond (bytes_eq n (codes "request")) (Some Request) None)

-- a further line of a package stanza
abbrev pub package_key : List ℕ → Option PackageKey
package_key n =
    cond (bytes_eq n (codes "version")) (Some Version)
    (cond (bytes_eq n (codes "depends")) (Some Depends)
    (cond (bytes_eq n (codes "conflicts")) (Some Conflicts)
    (cond (bytes_eq n (codes "installed")) (Some Installed) None)))

-- a further line of the request stanza
abbrev pub request_key : List ℕ → Option RequestKey
request_key n = cond (bytes_eq n (codes "install")) (Some Install) (cond (bytes_eq n (codes "remove")) (Some Remove) None)

-- a further line of a stanza of an answer
abbrev pub answer_key : List ℕ → Option AnswerKey
answer_key n = cond (bytes_eq n (codes "version")) (Some ItsVersion) (cond (bytes_eq n (codes "installed")) (Some IsInstalled) None)

abbrev pub truth : List ℕ → Option Bool
truth v = cond (bytes_eq v (codes "true")) (Some true) (cond (bytes_eq v (codes "false")) (Some false) None)
