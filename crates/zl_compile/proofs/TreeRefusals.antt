-- What is said of the tree of a file is said of its bytes.
use Rattle.std.proofs.Common.{ℕ, List, Ok, Err, subst, sym}
use Rattle.zl_value.specs.declared.position.Pos.{Pos}
use Rattle.zl_value.specs.declared.rule.Rule.{Rule}
use Rattle.zl_value.specs.declared.rule.Rule.TheVariants as rule
use Rattle.zl_ast.specs.declared.program.Program.{Program}
use Rattle.zl_ast.specs.Parsed.{IsParsed}
use Rattle.zl_compile.specs.declared.file.Accepted.{Accepted}
use Rattle.zl_compile.specs.declared.answer.CompileAnswer.{CompileAnswer}
use Rattle.zl_compile.specs.declared.answer.CompileAnswer.TheVariants.{Refused, Memory}
use Rattle.zl_compile.specs.Accepts.{IsAccepted}
use Rattle.zl_compile.specs.Breaks.{Breaks, RefusesBytes}
use Rattle.zl_compile.specs.FileTree.{IsTreeOf}
use Rattle.zl_compile.specs.FirstBroken.{IsFirstBroken}
use Rattle.zl_compile.specs.Steps.{GivesAccepted}

-- a rule that the tree breaks is one that its bytes break
tree_breaks : (bytes : List ℕ) (p : Program) (r : Rule) (at : Pos) → IsTreeOf bytes p → IsFirstBroken p r at → Breaks bytes r at
tree_breaks bytes p rule.Size at tree broken = absurd broken
tree_breaks bytes p rule.Utf8 at tree broken = absurd broken
tree_breaks bytes p rule.Token at tree broken = absurd broken
tree_breaks bytes p rule.Literal at tree broken = absurd broken
tree_breaks bytes p rule.Parse at tree broken = absurd broken
tree_breaks bytes p rule.Deep at tree broken = absurd broken
tree_breaks bytes p rule.NameUnknown at tree broken = (p, tree, broken)
tree_breaks bytes p rule.NameTwice at tree broken = (p, tree, broken)
tree_breaks bytes p rule.DefinedTwice at tree broken = (p, tree, broken)
tree_breaks bytes p rule.Undefined at tree broken = (p, tree, broken)
tree_breaks bytes p rule.Arity at tree broken = (p, tree, broken)
tree_breaks bytes p rule.Branch at tree broken = (p, tree, broken)
tree_breaks bytes p rule.Main at tree broken = (p, tree, broken)
tree_breaks bytes p rule.Last at tree broken = (p, tree, broken)
tree_breaks bytes p rule.TypeClash at tree broken = (p, tree, broken)
tree_breaks bytes p rule.TypeOpen at tree broken = (p, tree, broken)
tree_breaks bytes p rule.Kind at tree broken = (p, tree, broken)
tree_breaks bytes p rule.Init at tree broken = (p, tree, broken)
tree_breaks bytes p rule.ExpandSize at tree broken = (p, tree, broken)
tree_breaks bytes p rule.Causality at tree broken = (p, tree, broken)
tree_breaks bytes p rule.Grade at tree broken = (p, tree, broken)
tree_breaks bytes p rule.Unbuilt at tree broken = (p, tree, broken)

pub refused_by : (bytes : List ℕ) (p : Program) (why : CompileAnswer) → IsTreeOf bytes p → GivesAccepted p (Err why) → RefusesBytes bytes why
refused_by bytes p (Refused r at) tree gives = tree_breaks bytes p r at tree gives
refused_by bytes p Memory tree gives = tt

pub accepted_by : (bytes : List ℕ) (p : Program) (a : Accepted) → IsTreeOf bytes p → IsParsed p → GivesAccepted p (Ok a) → IsAccepted bytes a
accepted_by bytes p a tree parsed gives =
    record { tree = subst (IsTreeOf bytes) (sym gives.0) tree; parsed = subst IsParsed (sym gives.0) parsed; rules = gives.1 }
