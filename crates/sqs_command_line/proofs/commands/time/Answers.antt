use Rattle.std.proofs.Common.{None, Option, Some, ap, ap₂, subst, ◌∙◌, ◌≡◌}
use Rattle.std.specs.Prelude.{pos}
use Rattle.clap.specs.Values.{NarrowsTo, is_integer_parser}
use Rattle.clap.specs.Walk.{Rule, rule_of}
use Rattle.clap.specs.declared.builder.arg.Arg.{Arg}
use Rattle.clap.specs.declared.builder.value_parser.ValueParser.{ValueParser}
use Rattle.clap.specs.declared.builder.value_parser.ValueParser.TheVariants as parsers
use Rattle.sqs_command_line.proofs.commands.time.Goals as goal

pub range-requires : goal.range-requires
range-requires c = record { bounds = tt; integer = ap is_integer_parser c.value_parser.ensures }

pub returns-clause-local : goal.returns-clause-local
returns-clause-local c = ap (λ (a : Arg). a.global) c.value_parser-2.ensures.others ∙ c.option.ensures.local

pub returns-clause-rule : goal.returns-clause-rule
returns-clause-rule c =
    let given = c.value_parser-2.ensures.given in
    let ranged : c.range.result ≡ parsers.Unsigned 1 18446744073709551615 = subst (λ (p : ValueParser). NarrowsTo p (Some (pos 1)) None c.range.result) c.value_parser.ensures c.range.ensures in
    let parser : c.value_parser-2.result.value_parser ≡ Some (parsers.Unsigned 1 18446744073709551615) = given.1 ∙ ap Some (given.2 ∙ ranged) in
    ap rule_of c.value_parser-2.ensures.others ∙ ap₂ (λ (r : Rule) (p : Option ValueParser). record r { parser = p }) c.option.ensures.rule parser
