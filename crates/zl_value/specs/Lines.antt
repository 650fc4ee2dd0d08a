-- The texts of the lines of a trace. This project's own.
use Rattle.std.specs.Prelude.{ℕ, List, [], ◌∷◌, ◌++◌, codes, decimal}
use Rattle.std.specs.List.{flat_map}
use Rattle.zl_value.specs.Fraction.{Fraction}
use Rattle.zl_value.specs.ValueText.{fraction_text, value_text}
use Rattle.zl_value.specs.declared.arith.Arith.{Arith}
use Rattle.zl_value.specs.declared.arith.Arith.TheVariants.{Range, Division}
use Rattle.zl_value.specs.declared.position.Pos.{Pos}
use Rattle.zl_value.specs.declared.value.Value.{Value}
use Rattle.zl_value.specs.declared.script.Mark.{Mark}
use Rattle.zl_value.specs.declared.script.Mark.TheVariants.{Step, Left, Flow}
use Rattle.zl_value.specs.declared.script.Ending.{Ending}
use Rattle.zl_value.specs.declared.script.Ending.TheVariants.{Horizon, Bound, Empty, Fault as EndsInFault}

-- a name and its value
pub record Shown : Type 0 where
  pub name : List ℕ
  pub value : Value

abbrev pub line_end : List ℕ
line_end = 10 ∷ []

abbrev pub mark_text : Mark → List ℕ
mark_text (Step k) = codes "#" ++ decimal k
mark_text Left = codes "-"
mark_text Flow = codes "~"

abbrev pub shown_text : Shown → List ℕ
shown_text s = codes " " ++ s.name ++ codes "=" ++ value_text s.value

-- the line of a step or a left end
abbrev pub instant_line : Fraction → Mark → List Shown → List ℕ
instant_line time mark outputs = fraction_text time ++ codes " " ++ mark_text mark ++ flat_map shown_text outputs ++ line_end

abbrev pub arith_text : Arith → List ℕ
arith_text Range = codes "range"
arith_text Division = codes "division"

abbrev pub position_text : Pos → List ℕ
position_text at = decimal at.line ++ codes ":" ++ decimal at.column

-- the last line of a trace
abbrev pub ending_line : Ending → List ℕ
ending_line Horizon = codes "end horizon" ++ line_end
ending_line Bound = codes "end bound" ++ line_end
ending_line Empty = codes "end empty" ++ line_end
ending_line (EndsInFault fault time mark) =
    codes "fault " ++ arith_text fault.kind ++ codes " " ++ fraction_text time ++ codes " " ++ mark_text mark ++ codes " " ++ position_text fault.at ++ line_end
