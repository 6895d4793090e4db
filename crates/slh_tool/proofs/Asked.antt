-- Arguments that `clap` takes ask for a command.
use Rattle.std.proofs.Common.{◌≡◌, ◌&&◌, ◌||◌, Bool, true, false, not, cond, List, [], ◌∷◌, Option, Some, None, refl, sym, ◌∙◌, subst}
use Rattle.std.proofs.lemmas.Slice.Eq.{bytes_eq-Decides}
use Rattle.std.specs.Prelude.{codes, drop, find, option_map}
use Rattle.std.specs.List.{list_all, list_any}
use Rattle.std.specs.Option.{option_map_or}
use Rattle.std.specs.Str.{bytes_eq}
use Rattle.clap.specs.Kinds.{check_kinds}
use Rattle.clap.specs.Faults.{built_fault, entered_fault, level_fault, walk_fault}
use Rattle.clap.specs.Simple.{App, Shape, built, entered, label_of, names_of, rows_at}
use Rattle.clap.specs.Takes.{is_given}
use Rattle.clap.specs.Walk.{Row, Rule, answers_to, nothing_held, rows_after, stop_after, walk, walk_from}
use Rattle.clap.specs.Words.{Text, fault_of, first_of, subcommand_of}
use Rattle.slh_tool.specs.Arguments.{slh_app}
use Rattle.slh_tool.specs.Requests.{asked_by, asked_in}
use Rattle.slh_tool.proofs.Rows.{IsNoHelp, all_fill, fills, given_first, or_nil, passed, walk-no_help}

-- ---- what is required has a value

abbrev needs : Text → List Rule → Bool
needs id rules = list_any (λ a. a.required && bytes_eq a.id id) rules

or_false : (a b : Bool) → (a || b) ≡ false → (a ≡ false) × (b ≡ false)
or_false true b e = cc e
or_false false b e = (refl, e)

required_given : (id : Text) (rows : List Row) (rules : List Rule) → needs id rules ≡ true → list_any (λ a. a.required && not (is_given a.id rows)) rules ≡ false
    → not (is_given id rows) ≡ false
required_given id rows [] n e = cc n
required_given id rows (a ∷ rest) n e =
    let parts = or_false (a.required && not (is_given a.id rows)) _ e in
    chosen a.required (bytes_eq a.id id) refl n parts.0 (λ m. required_given id rows rest m parts.1)
  where
    chosen : (required same : Bool) → bytes_eq a.id id ≡ same → ((required && same) || needs id rest) ≡ true → (required && not (is_given a.id rows)) ≡ false
        → (needs id rest ≡ true → not (is_given id rows) ≡ false) → not (is_given id rows) ≡ false
    chosen true true is n given later = subst (λ (t : Text). not (is_given t rows) ≡ false) ((bytes_eq-Decides a.id id).0 is) given
    chosen true false is n given later = later n
    chosen false same is n given later = later n

last_check : (a b c : Bool) → check_kinds a b c ≡ [] → c ≡ false
last_check true b c e = cc e
last_check false true c e = cc e
last_check false false true e = cc e
last_check false false false e = refl

not_negated : (a b : Bool) → (not (a && false) && b) ≡ b
not_negated true b = refl
not_negated false b = refl

value_of : (s : Shape) (words : List Text) (id : Text) → list_all fills s.rules ≡ true → needs id s.rules ≡ true → level_fault s [] nothing_held words false [] ≡ []
    → (v : Text) × (first_of id (rows_after s.rules [] words) ≡ Some v)
value_of s words id all n e =
    let rows : List Row = rows_after s.rules [] words in
    let p = passed s words (all_fill s.rules all) e in
    given_first id rows p.rows (required_given id rows s.rules n (sym (not_negated s.subcommand_negates_reqs _) ∙ last_check _ _ _ p.checked))

-- ---- each subcommand

-- a subcommand that is named by an argument other than `help`, and takes the arguments after it, asks for a command
abbrev AsksAt : Shape → Type 0
AsksAt s = (name : Text) (words : List Text) → bytes_eq name (codes "help") ≡ false → answers_to name (label_of s) ≡ true
    → level_fault s [] nothing_held words false [] ≡ [] → asked_in s.name (rows_after s.rules [] words) ≡ None → ⊥

abbrev AllAsk : List Shape → Type 0
AllAsk [] = Unit {0}
AllAsk (s ∷ rest) = AsksAt s × AllAsk rest

params_asks : (s : Shape) → s.name ≡ codes "params" → AsksAt s
params_asks s e name words other named fault none = cc (rw e at none)

root_asks : (s : Shape) → s.name ≡ codes "root" → list_all fills s.rules ≡ true → needs (codes "set") s.rules ≡ true → AsksAt s
root_asks s e all n name words other named fault none =
    let set = value_of s words (codes "set") all n fault in cc (rw (e, set.1) at none)

keygen_asks : (s : Shape) → s.name ≡ codes "keygen" → list_all fills s.rules ≡ true → needs (codes "set") s.rules ≡ true → AsksAt s
keygen_asks s e all n name words other named fault none =
    let set = value_of s words (codes "set") all n fault in cc (rw (e, set.1) at none)

public_asks : (s : Shape) → s.name ≡ codes "public" → list_all fills s.rules ≡ true → needs (codes "key") s.rules ≡ true → AsksAt s
public_asks s e all n name words other named fault none =
    let key = value_of s words (codes "key") all n fault in cc (rw (e, key.1) at none)

check_asks : (s : Shape) → s.name ≡ codes "check" → list_all fills s.rules ≡ true → needs (codes "key") s.rules ≡ true → AsksAt s
check_asks s e all n name words other named fault none =
    let key = value_of s words (codes "key") all n fault in cc (rw (e, key.1) at none)

upgrade_asks : (s : Shape) → s.name ≡ codes "upgrade" → list_all fills s.rules ≡ true → needs (codes "key") s.rules ≡ true → AsksAt s
upgrade_asks s e all n name words other named fault none =
    let key = value_of s words (codes "key") all n fault in cc (rw (e, key.1) at none)

sign_asks : (s : Shape) → s.name ≡ codes "sign" → list_all fills s.rules ≡ true → needs (codes "key") s.rules ≡ true → needs (codes "message") s.rules ≡ true → AsksAt s
sign_asks s e all k m name words other named fault none =
    let key = value_of s words (codes "key") all k fault in
    let message = value_of s words (codes "message") all m fault in
    cc (rw (e, key.1, message.1) at none)

verify_asks : (s : Shape) → s.name ≡ codes "verify" → list_all fills s.rules ≡ true → needs (codes "key") s.rules ≡ true → needs (codes "message") s.rules ≡ true
    → needs (codes "signature") s.rules ≡ true → AsksAt s
verify_asks s e all k m g name words other named fault none =
    let key = value_of s words (codes "key") all k fault in
    let message = value_of s words (codes "message") all m fault in
    let signature = value_of s words (codes "signature") all g fault in
    cc (rw (e, key.1, message.1, signature.1) at none)

vectors_asks : (s : Shape) → s.name ≡ codes "vectors" → list_all fills s.rules ≡ true → needs (codes "file") s.rules ≡ true → AsksAt s
vectors_asks s e all n name words other named fault none =
    let file = value_of s words (codes "file") all n fault in cc (rw (e, file.1) at none)

or_true : (a : Bool) → (a || false) ≡ true → a ≡ true
or_true true e = refl
or_true false e = cc e

help_asks : (s : Shape) → s.name ≡ codes "help" → s.aliases ≡ [] → AsksAt s
help_asks s e alone name words other named fault none =
    let same : bytes_eq (codes "help") name ≡ true = or_true _ (rw (e, alone) at named) in
    let is : codes "help" ≡ name = (bytes_eq-Decides (codes "help") name).0 same in
    let again : bytes_eq name (codes "help") ≡ true = (bytes_eq-Decides name (codes "help")).1 (sym is) in
    cc (sym again ∙ other)

data_asks : AllAsk (drop 3 (built slh_app).subs)
data_asks = (
  public_asks _ refl refl refl,
  (
    sign_asks _ refl refl refl refl,
    (
      verify_asks _ refl refl refl refl refl,
      (check_asks _ refl refl refl, (upgrade_asks _ refl refl refl, (vectors_asks _ refl refl refl, (help_asks _ refl refl, tt)))),
    ),
  ),
)

all_ask : AllAsk (built slh_app).subs
all_ask = (params_asks _ refl, (root_asks _ refl refl refl, (keygen_asks _ refl refl refl, data_asks)))

-- ---- the whole program

found_asks : (name : Text) (words : List Text) (subs : List Shape) → AllAsk subs → bytes_eq name (codes "help") ≡ false
    → option_map_or (λ s. level_fault s [] nothing_held words false []) (find (λ s. answers_to name (label_of s)) subs) [] ≡ []
    → asked_by (option_map (λ s. rows_at s words) (find (λ s. answers_to name (label_of s)) subs)) ≡ None → ⊥
found_asks name words [] all other fault none = cc none
found_asks name words (s ∷ rest) all other fault none = chosen (answers_to name (label_of s)) refl fault none (found_asks name words rest all.1 other)
  where
    chosen : (b : Bool) → answers_to name (label_of s) ≡ b
        → option_map_or (λ s. level_fault s [] nothing_held words false []) (cond b (Some s) (find (λ s. answers_to name (label_of s)) rest)) [] ≡ []
        → asked_by (option_map (λ s. rows_at s words) (cond b (Some s) (find (λ s. answers_to name (label_of s)) rest))) ≡ None
        → (option_map_or (λ s. level_fault s [] nothing_held words false []) (find (λ s. answers_to name (label_of s)) rest) [] ≡ []
        → asked_by (option_map (λ s. rows_at s words) (find (λ s. answers_to name (label_of s)) rest)) ≡ None → ⊥) → ⊥
    chosen true named f n later = all.0 name words other named f n
    chosen false named f n later = later f n

entered_asks : (a : App) (stop : Option (Text × List Text)) → AllAsk a.subs → IsNoHelp stop → entered_fault a stop ≡ [] → asked_by (entered a stop) ≡ None → ⊥
entered_asks a None all other fault none = cc none
entered_asks a (Some p) all other fault none = found_asks p.0 p.1 a.subs all other fault none

built_asks : (a : App) (words : List Text) → AllAsk a.subs → a.top.disable_help_subcommand ≡ false → built_fault a nothing_held words ≡ []
    → asked_by (entered a (stop_after a.top.rules (names_of a) words)) ≡ None → ⊥
built_asks a words all enabled fault none =
    let stop : Option (Text × List Text) = (walk a.top.rules (names_of a) nothing_held words).stopped in
    let walking = or_nil (walk_fault a.top (names_of a) (walk_from nothing_held) words) _ fault in
    let below = or_nil (entered_fault a stop) _ walking.1 in
    entered_asks a stop all (walk-no_help a.top (names_of a) (walk_from nothing_held) words enabled walking.0 tt) below.0 none

-- arguments without a fault ask for a command
pub some_asked : (words : List Text) → fault_of slh_app words ≡ [] → asked_by (subcommand_of slh_app words) ≡ None → ⊥
some_asked words fault none = built_asks (built slh_app) words all_ask refl fault none
