use Rattle.std.proofs.Common.{◌≡◌, [], IfOk, sym, ap, ◌∙◌, subst}
use Rattle.std.specs.Prelude.{Option, option_map}
use Rattle.scripts.specs.Lines.{words_in, ScriptLine, line_behind}
use Rattle.scripts.specs.KeptLines.{said}
use Rattle.scripts.specs.declared.line.Kind.{Kind}
use Rattle.scripts.specs.declared.line.Line.{Line}
use Rattle.scripts.proofs.lines.Readers.{line_by_kind}
use Rattle.scripts.proofs.line.speaking_line.Goals as goal

pub returns-in-Some : goal.returns-in-Some
returns-in-Some c =
    let rest = words_in c.in-Some.rest.now in
    let says = ap (λ (k : Kind). line_behind k rest) c.kind_of.ensures ∙ sym (line_by_kind c.args.line.now c.in-Some.word.now rest c.requires c.in-Some.ensures.found) in
    record { exact = subst (λ (line : Option ScriptLine). IfOk c.longer_line.result (λ (found : Option Line). option_map {T = Line} {U = ScriptLine} (λ l. said l) found ≡ line)) says c.longer_line.ensures.exact }

pub returns-in-None : goal.returns-in-None
returns-in-None c = record {
  exact =
      c.single_word.ensures.exact
      ∙ ap (λ (k : Kind). line_behind k []) c.kind_of-in-None.ensures
      ∙ sym (line_by_kind c.args.line.now c.args.line.now [] c.requires c.in-None.ensures.none);
}
