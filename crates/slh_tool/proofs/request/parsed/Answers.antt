-- The words ask for what the program's command line, as `clap` reads it, says, or are refused as it refuses.
use Rattle.std.proofs.Common.{◌≡◌, ◌∙◌, List, map, string_bytes, sym, ap, subst}
use Rattle.clap.specs.Words.{App, Text, app_of, fault_of, is_simple, kind_of, subcommand_of}
use Rattle.clap.specs.Faults.{is_simple_and_free}
use Rattle.clap.specs.Kinds.{IsAmong}
use Rattle.clap.specs.declared.error.ErrorKind.{ErrorKind}
use Rattle.clap.specs.declared.error.ErrorKind.TheVariants.{DisplayHelp, DisplayVersion}
use Rattle.slh_tool.specs.Arguments.{slh_app}
use Rattle.slh_tool.specs.Requests.{asked_by}
use Rattle.slh_tool.proofs.Asked.{some_asked}
use Rattle.slh_tool.proofs.Words.{among_other, known_among, slh_app_free, slh_app_simple}
use Rattle.slh_tool.proofs.request.parsed.Goals as goal

pub returns-in-Some-clause-ok : goal.returns-in-Some-clause-ok
returns-in-Some-clause-ok c =
    let words : List Text = map string_bytes c.args.words.now in
    let app : app_of c.in-Ok.command ≡ slh_app = c.in-Ok.ensures in
    let parse = c.in-Ok-try_get_matches_from.ensures in
    let none = parse.kinds (ap is_simple_and_free app ∙ slh_app_free) in
    let rows = (parse.matches (ap is_simple app ∙ slh_app_simple)).1 in (
      sym (ap (λ (a : App). fault_of a words) app) ∙ none,
      ap asked_by (sym (ap (λ (a : App). subcommand_of a words) app) ∙ sym rows) ∙ sym c.in-Some.ensures,
    )

pub returns-in-DisplayHelp-clause-err : goal.returns-in-DisplayHelp-clause-err
returns-in-DisplayHelp-clause-err c =
    let words : List Text = map string_bytes c.args.words.now in
    let app : app_of c.in-Ok.command ≡ slh_app = c.in-Ok.ensures in
    let kinds = c.in-Err.ensures.kinds (ap is_simple_and_free app ∙ slh_app_free) in
    let among = known_among DisplayHelp _ _ (λ e. cc e) kinds c.in-DisplayHelp.ensures in
    subst (λ (a : App). IsAmong DisplayHelp (fault_of a words)) app among

pub returns-in-DisplayVersion-clause-err : goal.returns-in-DisplayVersion-clause-err
returns-in-DisplayVersion-clause-err c =
    let words : List Text = map string_bytes c.args.words.now in
    let app : app_of c.in-Ok.command ≡ slh_app = c.in-Ok.ensures in
    let kinds = c.in-Err.ensures.kinds (ap is_simple_and_free app ∙ slh_app_free) in
    let among = known_among DisplayVersion _ _ (λ e. cc e) kinds c.in-DisplayVersion.ensures in
    subst (λ (a : App). IsAmong DisplayVersion (fault_of a words)) app among

pub returns-in-Ok-try_get_matches_from-clause-err : goal.returns-in-Ok-try_get_matches_from-clause-err
returns-in-Ok-try_get_matches_from-clause-err c =
    let words : List Text = map string_bytes c.args.words.now in
    let app : app_of c.in-Ok.command ≡ slh_app = c.in-Ok.ensures in
    let parse = c.in-Ok-try_get_matches_from.ensures in
    let none = parse.kinds (ap is_simple_and_free app ∙ slh_app_free) in
    let rows = (parse.matches (ap is_simple app ∙ slh_app_simple)).1 in
    absurd (some_asked words (sym (ap (λ (a : App). fault_of a words) app) ∙ none)
    (ap asked_by (sym (ap (λ (a : App). subcommand_of a words) app) ∙ sym rows) ∙ sym c.in-None.ensures))

pub returns-clause-err : goal.returns-clause-err
returns-clause-err c =
    let words : List Text = map string_bytes c.args.words.now in
    let app : app_of c.in-Ok.command ≡ slh_app = c.in-Ok.ensures in
    let kinds = c.in-Err.ensures.kinds (ap is_simple_and_free app ∙ slh_app_free) in
    let among = among_other _ _ kinds (λ e. c.in_default-kind.not-OutOfMemory (c.kind.ensures ∙ e)) in
    let kind : ErrorKind = kind_of c.in-Err.error in (
      kind,
      subst (λ (a : App). IsAmong kind (fault_of a words)) app among,
      λ e. c.in_default-kind.not-DisplayHelp (c.kind.ensures ∙ e),
      λ e. c.in_default-kind.not-DisplayVersion (c.kind.ensures ∙ e),
    )
