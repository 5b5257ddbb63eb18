-- What the code's value says of a line that has a property.
-- said: the name and the value of the property
use Rattle.std.specs.Prelude.{ℕ, List}
use Rattle.text.specs.Left.{shown}
use Rattle.problem.specs.declared.property_line.PropertyLine.{PropertyLine}

abbrev pub said : PropertyLine → List ℕ × List ℕ
said l = shown l.text.now l.property
