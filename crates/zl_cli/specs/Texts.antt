-- The lines that the program writes in place of a report. This project's own.
use Rattle.std.specs.Prelude.{ℕ, List, ◌++◌, codes}
use Rattle.zl_value.specs.Lines.{line_end, position_text}
use Rattle.zl_value.specs.declared.position.Pos.{Pos}
use Rattle.zl_value.specs.declared.rule.Rule.{Rule}
use Rattle.zl_value.specs.declared.rule.Rule.TheVariants as rule

-- the name of a rule in a refusal
abbrev pub rule_text : Rule → List ℕ
rule_text rule.Size = codes "size"
rule_text rule.Utf8 = codes "utf8"
rule_text rule.Token = codes "token"
rule_text rule.Literal = codes "literal"
rule_text rule.Parse = codes "parse"
rule_text rule.Deep = codes "deep"
rule_text rule.NameUnknown = codes "name-unknown"
rule_text rule.NameTwice = codes "name-twice"
rule_text rule.DefinedTwice = codes "defined-twice"
rule_text rule.Undefined = codes "undefined"
rule_text rule.Arity = codes "arity"
rule_text rule.Branch = codes "branch"
rule_text rule.Main = codes "main"
rule_text rule.Last = codes "last"
rule_text rule.TypeClash = codes "type-clash"
rule_text rule.TypeOpen = codes "type-open"
rule_text rule.Kind = codes "kind"
rule_text rule.Init = codes "init"
rule_text rule.ExpandSize = codes "expand-size"
rule_text rule.Causality = codes "causality"
rule_text rule.Grade = codes "grade"
rule_text rule.Unbuilt = codes "unbuilt"

-- the answer to a file that breaks no rule
abbrev pub ok_line : List ℕ
ok_line = codes "ok" ++ line_end

-- the answer to a file that breaks a rule
abbrev pub refusal_line : Rule → Pos → List ℕ
refusal_line r at = codes "refused " ++ rule_text r ++ codes " " ++ position_text at ++ line_end

-- the answer to a script that isn't of the form that is built
abbrev pub script_line : List ℕ
script_line = codes "refused script unbuilt 1" ++ line_end

abbrev pub usage_line : List ℕ
usage_line = codes "usage: zpc check FILE, code FILE, run FILE SCRIPT, exec CODE SCRIPT, gen SEED" ++ line_end

abbrev pub read_fault_line : List ℕ
read_fault_line = codes "read fault" ++ line_end

abbrev pub no_memory_line : List ℕ
no_memory_line = codes "no memory" ++ line_end
