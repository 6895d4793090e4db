-- A walk of `clap` over arguments without a fault leaves no row without a value, and does not stop at `help`.
use Rattle.std.proofs.Common.{◌≡◌, ℕ, zero, suc, ◌&&◌, Bool, true, false, not, cond, List, [], ◌∷◌, ◌++◌, length, Option, Some, None, IfSome, refl, sym, ap, ◌∙◌}
use Rattle.std.proofs.lemmas.Bool.{and_parts}
use Rattle.std.specs.Prelude.{codes, find, fold, is_some, slice_get, nat_lt, option_and_then}
use Rattle.std.specs.List.{list_all}
use Rattle.std.specs.Option.{option_map_or}
use Rattle.std.specs.Str.{bytes_eq, chars}
use Rattle.clap.specs.Facts.{explicit_source, unwrap_or_range}
use Rattle.clap.specs.Kinds.{Kinds, or_else, range_kinds}
use Rattle.clap.specs.Lexer.{long_of, short_of}
use Rattle.clap.specs.Walk.{Held, Names, Outcome, Row, Rule, Step, Text, Waiting, Walk, action_of, after_flag, after_step, arg_by_id, arg_by_index, arg_by_long, arg_by_short, attached_value, bundle, bundle_step, default_rows, finished, flag_met, has_row, is_empty, is_pending, long_met, long_or_other, most_values, nothing_held, option_met, option_word, plain_word, reacted, reading_by, rows_after, settled, settled_rows, short_met, short_or_plain, subcommand_met, subcommand_or_other, takes_several, takes_values, to_positional, used, used_as, used_by_id, values_or_missing, walk, walk_from, walked_from, with_default, with_values, without, word_met, bundle_met, walked, done, waits, plain, refused, idle, option, positional, next, trailing, subcommand, value}
use Rattle.clap.specs.Faults.{bundle_fault, bundle_step_fault, check_fault, flag_word_fault, level_fault, long_fault, option_fault, other_fault, positional_fault, react_fault, settle_fault, short_fault, step_fault, stray_fault, turn_fault, use_fault, word_fault, flags_fault, walk_fault}
use Rattle.clap.specs.Simple.{Shape}
use Rattle.clap.specs.Takes.{is_given}
use Rattle.clap.specs.Words.{first_of}
use Rattle.clap.specs.declared.builder.action.ArgAction.{ArgAction}
use Rattle.clap.specs.declared.builder.action.ArgAction.TheVariants as act
use Rattle.clap.specs.declared.builder.value_parser.Reading.{Reading}
use Rattle.clap.specs.declared.error.kind.ErrorKind.{ErrorKind}
use Rattle.clap.specs.declared.error.kind.ErrorKind.TheVariants as kind
use Rattle.clap.specs.declared.parser.matches.ValueSource.{ValueSource}

-- ---- rows that have values

abbrev pub HasValue : List Text → Type 0
HasValue [] = ⊥
HasValue (v ∷ vs) = Unit {0}

abbrev pub Filled : List Row → Type 0
Filled [] = Unit {0}
Filled (r ∷ rs) = HasValue r.values × Filled rs

filled_cond : (b : Bool) (xs ys : List Row) → Filled xs → Filled ys → Filled (cond b xs ys)
filled_cond true xs ys f g = f
filled_cond false xs ys f g = g

more_value : (old values : List Text) → HasValue values → HasValue (old ++ values)
more_value [] values h = h
more_value (v ∷ vs) values h = tt

with_values-filled : (id : Text) (how : Reading) (s : ValueSource) (values : List Text) (rows : List Row)
    → HasValue values → Filled rows → Filled (with_values id how s values rows)
with_values-filled id how s values [] h f = (h, tt)
with_values-filled id how s values (r ∷ rs) h f =
    filled_cond (bytes_eq r.id id) _ _ (more_value r.values values h, f.1) (f.0, with_values-filled id how s values rs h f.1)

without-filled : (id : Text) (rows : List Row) → Filled rows → Filled (without id rows)
without-filled id [] f = tt
without-filled id (r ∷ rs) f = filled_cond (bytes_eq r.id id) _ _ f.1 (f.0, without-filled id rs f.1)

-- ---- one use of an argument

-- the argument wants a value, or is a flag with a value of its own, or asks for help
abbrev pub FillsAs : ArgAction → Rule → Type 0
FillsAs act.Set a = nat_lt 0 (unwrap_or_range a.range).start_inclusive ≡ true
FillsAs act.SetTrue a = HasValue a.missing
FillsAs act.Help a = Unit {0}
FillsAs other a = ⊥

abbrev pub Fills : Rule → Type 0
Fills a = FillsAs (action_of a) a

abbrev fills_as : ArgAction → Rule → Bool
fills_as act.Set a = nat_lt 0 (unwrap_or_range a.range).start_inclusive
fills_as act.SetTrue a = not (is_empty a.missing)
fills_as act.Help a = true
fills_as other a = false

-- the same as a test
abbrev pub fills : Rule → Bool
fills a = fills_as (action_of a) a

not_empty : (values : List Text) → not (is_empty values) ≡ true → HasValue values
not_empty [] e = cc e
not_empty (v ∷ vs) e = tt

fills_as-true : (action : ArgAction) (a : Rule) → fills_as action a ≡ true → FillsAs action a
fills_as-true act.Set a e = e
fills_as-true act.SetTrue a e = not_empty a.missing e
fills_as-true act.Help a e = tt
fills_as-true _ a e = absurd (cc e)

abbrev pub AllFill : List Rule → Type 0
AllFill [] = Unit {0}
AllFill (a ∷ rest) = Fills a × AllFill rest

pub all_fill : (c : List Rule) → list_all fills c ≡ true → AllFill c
all_fill [] e = tt
all_fill (a ∷ rest) e =
    let parts = and_parts (fills a) (list_all fills rest) e in
    (fills_as-true (action_of a) a parts.0, all_fill rest parts.1)

pub or_nil : (x y : Kinds) → or_else x y ≡ [] → (x ≡ []) × (y ≡ [])
or_nil [] y h = (refl, h)
or_nil (k ∷ ks) y h = cc h

no_value : (least most : ℕ) → nat_lt 0 least ≡ true → range_kinds least most 0 ≡ [] → ⊥
no_value least most h e = cc (rw h at e)

or_missing : (a : Rule) (values : List Text) → HasValue a.missing → HasValue (values_or_missing a values)
or_missing a [] h = h
or_missing a (v ∷ vs) h = tt

used_as-filled : (action : ArgAction) (a : Rule) (values : List Text) (rows : List Row) → FillsAs action a
    → range_kinds (unwrap_or_range a.range).start_inclusive (most_values a) (length values) ≡ [] → Filled rows
    → Filled (used_as action a.id (reading_by a) (values_or_missing a values) rows)
used_as-filled act.Set a [] rows fills range f = absurd (no_value _ _ fills range)
used_as-filled act.Set a (v ∷ vs) rows fills range f = with_values-filled a.id (reading_by a) _ (v ∷ vs) (without a.id rows) tt (without-filled a.id rows f)
used_as-filled act.SetTrue a values rows fills range f =
    with_values-filled a.id (reading_by a) _ (values_or_missing a values) (without a.id rows) (or_missing a values fills) (without-filled a.id rows f)
used_as-filled act.Help a values rows fills range f = f
used_as-filled _ a values rows fills range f = absurd fills

used-filled : (again : Bool) (a : Rule) (values : List Text) (rows : List Row) → Fills a → use_fault again a values rows ≡ [] → Filled rows → Filled (used a values rows)
used-filled again a values rows fills e f = used_as-filled (action_of a) a values rows fills (or_nil _ _ e).0 f

-- ---- what is held between two arguments

found-fills : (test : Rule → Bool) (c : List Rule) → AllFill c → IfSome (find test c) Fills
found-fills test [] all = tt
found-fills test (a ∷ rest) all = chosen (test a) (found-fills test rest all.1)
  where
    chosen : (b : Bool) → IfSome (find test rest) Fills → IfSome (cond b (Some a) (find test rest)) Fills
    chosen true r = all.0
    chosen false r = r

used_by_id-filled : (again : Bool) (o : Option Rule) (values : List Text) (rows : List Row) → IfSome o Fills
    → option_map_or (λ a. use_fault again a values rows) o [] ≡ [] → Filled rows → Filled (used_by_id o values rows)
used_by_id-filled again None values rows fills e f = f
used_by_id-filled again (Some a) values rows fills e f = used-filled again a values rows fills e f

settled_rows-filled : (c : List Rule) (again : Bool) (p : Option (Text × List Text)) (rows : List Row) → AllFill c
    → option_map_or (λ p. option_map_or (λ a. use_fault again a p.1 rows) (arg_by_id c p.0) []) p [] ≡ [] → Filled rows → Filled (settled_rows c p rows)
settled_rows-filled c again None rows all e f = f
settled_rows-filled c again (Some p) rows all e f = used_by_id-filled again (arg_by_id c p.0) p.1 rows (found-fills _ c all) e f

settled-filled : (c : List Rule) (again : Bool) (h : Held) → AllFill c → settle_fault c again h ≡ [] → Filled h.rows → Filled (settled c h).rows
settled-filled c again h all e f = settled_rows-filled c again h.pending h.rows all e f

reacted-filled : (c : List Rule) (again : Bool) (a : Rule) (values : List Text) (h : Held) → AllFill c → Fills a → react_fault c again a values h ≡ []
    → Filled h.rows → Filled (reacted c a values h).rows
reacted-filled c again a values h all fills e f =
    let parts = or_nil (settle_fault c again h) (use_fault again a values (settled c h).rows) e in
    used-filled again a values (settled c h).rows fills parts.1 (settled-filled c again h all parts.0 f)

-- ---- flags

option-filled : (c : List Rule) (again : Bool) (a : Rule) (v : Option Text) (h : Held) → AllFill c → Fills a → option_fault c again a v h ≡ []
    → Filled h.rows → Filled (option_met c a v h).0.rows
option-filled c again a None h all fills e f = settled-filled c again h all e f
option-filled c again a (Some v) h all fills e f = reacted-filled c again a (v ∷ []) h all fills e f

flag-filled : (c : List Rule) (again : Bool) (a : Rule) (v : Option Text) (h : Held) (k : Kinds) → AllFill c → Fills a
    → cond (is_some v) k (react_fault c again a [] h) ≡ [] → Filled h.rows → Filled (flag_met c a v h).0.rows
flag-filled c again a None h k all fills e f = reacted-filled c again a [] h all fills e f
flag-filled c again a (Some v) h k all fills e f = f

long-filled : (c : List Rule) (again : Bool) (o : Option Rule) (v : Option Text) (h : Held) → AllFill c → IfSome o Fills → long_fault c again o v h ≡ []
    → Filled h.rows → Filled (long_met c o v h).0.rows
long-filled c again None v h all fills e f = f
long-filled c again (Some a) v h all fills e f = chosen (takes_values a) e
  where
    chosen : (b : Bool) → cond b (option_fault c again a v h) (cond (is_some v) (kind.TooManyValues ∷ []) (react_fault c again a [] h)) ≡ []
        → Filled (cond b (option_met c a v h) (flag_met c a v h)).0.rows
    chosen true e = option-filled c again a v h all fills e f
    chosen false e = flag-filled c again a v h (kind.TooManyValues ∷ []) all fills e f

short-filled : (c : List Rule) (again : Bool) (o : Option Rule) (rest : Text) (h : Held) (next_fault : Held → Kinds) (next_met : Held → Held × Outcome)
    → AllFill c → IfSome o Fills → ((k : Held) → next_fault k ≡ [] → Filled k.rows → Filled (next_met k).0.rows)
    → short_fault c again o rest h next_fault ≡ [] → Filled h.rows → Filled (short_met c o rest h next_met).0.rows
short-filled c again None rest h next_fault next_met all fills later e f = f
short-filled c again (Some a) rest h next_fault next_met all fills later e f = chosen (takes_values a) e
  where
    chosen : (b : Bool) → cond b (option_fault c again a (attached_value rest) h) (or_else (react_fault c again a [] h) (next_fault (reacted c a [] h))) ≡ []
        → Filled (cond b (option_met c a (attached_value rest) h) (next_met (reacted c a [] h))).0.rows
    chosen true e = option-filled c again a (attached_value rest) h all fills e f
    chosen false e =
        let parts = or_nil _ _ e in
        later (reacted c a [] h) parts.1 (reacted-filled c again a [] h all fills parts.0 f)

bundle_step-filled : (c : List Rule) (again : Bool) (x : Option ℕ) (flags : Text) (skip : ℕ) (so_far : Outcome) (h : Held)
    (next_fault : Text → ℕ → Held → Kinds) (next_met : Text → ℕ → Outcome → Held → Held × Outcome) → AllFill c
    → ((flags : Text) (skip : ℕ) (so_far : Outcome) (k : Held) → next_fault flags skip k ≡ [] → Filled k.rows → Filled (next_met flags skip so_far k).0.rows)
    → bundle_step_fault c again x flags skip h next_fault ≡ [] → Filled h.rows → Filled (bundle_step c x flags skip so_far h next_met).0.rows
bundle_step-filled c again None flags skip so_far h next_fault next_met all later e f = f
bundle_step-filled c again (Some x) flags zero so_far h next_fault next_met all later e f =
    short-filled c again (arg_by_short c x) _ h _ _ all (found-fills _ c all) (λ k. later _ 0 done k) e f
bundle_step-filled c again (Some x) flags (suc skip) so_far h next_fault next_met all later e f = later _ skip so_far h e f

bundle-filled : (c : List Rule) (again : Bool) (k : ℕ) (flags : Text) (skip : ℕ) (so_far : Outcome) (h : Held) → AllFill c → flags_fault c again k flags skip h ≡ []
    → Filled h.rows → Filled (bundle_met c k flags skip so_far h).0.rows
unfolding bundle_met flags_fault
bundle-filled c again zero flags skip so_far h all e f = f
bundle-filled c again (suc k) flags skip so_far h all e f =
    bundle_step-filled c again (slice_get (chars flags) 0) flags skip so_far h (flags_fault c again k) (bundle_met c k) all
    (λ flags skip so_far h. bundle-filled c again k flags skip so_far h all) e f

-- ---- arguments

option_word-rows : (o : Option Rule) (id word : Text) (h : Held) → Filled h.rows → Filled (option_word o id word h).0.rows
option_word-rows None id word h f = f
option_word-rows (Some a) id word h f = f

plain-filled : (c : List Rule) (waiting : Waiting) (word : Text) (h : Held) → Filled h.rows → Filled (plain_word c waiting word h).0.rows
plain-filled c (option id) word h f = option_word-rows (arg_by_id c id) id word h f
plain-filled c idle word h f = f
plain-filled c positional word h f = f

after_flag-filled : (c : List Rule) (waiting : Waiting) (word : Text) (h : Held) (o : Outcome) → Filled h.rows → Filled (after_flag c waiting word h o).0.rows
after_flag-filled c waiting word h done f = f
after_flag-filled c waiting word h (waits id) f = f
after_flag-filled c waiting word h plain f = plain-filled c waiting word h f
after_flag-filled c waiting word h refused f = plain-filled c waiting word h f

flag_word-short : (c : List Rule) (again : Bool) (waiting : Waiting) (word : Text) (o : Option Text) (h : Held) → AllFill c
    → option_map_or (λ flags. bundle_fault c again flags h) o [] ≡ [] → Filled h.rows → Filled (short_or_plain c waiting word o h).0.rows
flag_word-short c again waiting word None h all e f = plain-filled c waiting word h f
flag_word-short c again waiting word (Some flags) h all e f =
    after_flag-filled c waiting word (bundle c flags h).0 (bundle c flags h).1
    (bundle-filled c again (length flags) flags h.skip plain (record h { skip = 0 }) all e f)

flag_word-filled : (c : List Rule) (again : Bool) (waiting : Waiting) (o : Option (Text × Option Text)) (word : Text) (h : Held) → AllFill c
    → flag_word_fault c again o word h ≡ [] → Filled h.rows → Filled (long_or_other c waiting word o h).0.rows
flag_word-filled c again waiting (Some p) word h all e f =
    after_flag-filled c waiting word (long_met c (arg_by_long c p.0) p.1 h).0 (long_met c (arg_by_long c p.0) p.1 h).1
    (long-filled c again (arg_by_long c p.0) p.1 h all (found-fills _ c all) e f)
flag_word-filled c again waiting None word h all e f = flag_word-short c again waiting word (short_of word) h all e f

other-filled : (s : Shape) (o : Option Text) (waiting : Waiting) (position : ℕ) (word : Text) (h : Held) → AllFill s.rules
    → other_fault s o word h ≡ [] → Filled h.rows → Filled (subcommand_or_other s.rules o waiting position word h).0.rows
other-filled s (Some name) waiting position word h all e f = f
other-filled s None waiting position word h all e f = chosen (bytes_eq word (45 ∷ 45 ∷ [])) e
  where
    chosen : (b : Bool) → cond b [] (flag_word_fault s.rules s.args_override_self (long_of word) word h) ≡ []
        → Filled (cond b (h, trailing position) (long_or_other s.rules waiting word (long_of word) h)).0.rows
    chosen true e = f
    chosen false e = flag_word-filled s.rules s.args_override_self waiting (long_of word) word h all e f

word-filled : (s : Shape) (names : Names) (is_trailing : Bool) (waiting : Waiting) (position : ℕ) (word : Text) (h : Held) → AllFill s.rules
    → word_fault s names is_trailing waiting word h ≡ [] → Filled h.rows → Filled (word_met s.rules names is_trailing waiting position word h).0.rows
word-filled s names true waiting position word h all e f = f
word-filled s names false waiting position word h all e f = other-filled s (subcommand_met names waiting word) waiting position word h all e f

-- ---- the walk

held_by : (b : Bool) (c : List Rule) (again : Bool) (h : Held) → AllFill c → cond b [] (settle_fault c again h) ≡ [] → Filled h.rows → Filled (cond b h (settled c h)).rows
held_by true c again h all e f = f
held_by false c again h all e f = settled-filled c again h all e f

to_positional-filled : (s : Shape) (o : Option Rule) (word : Text) (w : Walk) (h : Held) → AllFill s.rules
    → option_map_or (λ a. positional_fault s.rules s.args_override_self a h) o (stray_fault s) ≡ [] → Filled h.rows → Filled (to_positional s.rules o word w h).held.rows
to_positional-filled s None word w h all e f = f
to_positional-filled s (Some a) word w h all e f = held_by (is_pending a h.pending && takes_several a) s.rules s.args_override_self h all e f

after_step-filled : (s : Shape) (word : Text) (w : Walk) (h : Held) (t : Step) → AllFill s.rules → step_fault s w.position h t ≡ []
    → Filled h.rows → Filled (after_step s.rules word w h t).held.rows
after_step-filled s word w h (next waiting) all e f = f
after_step-filled s word w h (trailing position) all e f = f
after_step-filled s word w h (subcommand name) all e f = f
after_step-filled s word w h value all e f = to_positional-filled s (arg_by_index s.rules w.position) word w h all e f

walked_from-filled : (s : Shape) (names : Names) (stopped : Option (Text × List Text)) (w : Walk) (word : Text) → AllFill s.rules
    → cond (is_some stopped) [] (or_else (word_fault s names w.is_trailing w.waiting word w.held)
    (step_fault s w.position (word_met s.rules names w.is_trailing w.waiting w.position word w.held).0 (word_met s.rules names w.is_trailing w.waiting w.position word w.held).1)) ≡ []
    → Filled w.held.rows → Filled (walked_from s.rules names stopped w word).held.rows
walked_from-filled s names (Some p) w word all e f = f
walked_from-filled s names None w word all e f =
    let parts = or_nil _ _ e in
    let met = word_met s.rules names w.is_trailing w.waiting w.position word w.held in
    after_step-filled s word w met.0 met.1 all parts.1 (word-filled s names w.is_trailing w.waiting w.position word w.held all parts.0 f)

walk-filled : (s : Shape) (names : Names) (w : Walk) (words : List Text) → AllFill s.rules → walk_fault s names w words ≡ []
    → Filled w.held.rows → Filled (fold (walked s.rules names) w words).held.rows
unfolding walked walk_fault
walk-filled s names w [] all e f = f
walk-filled s names w (word ∷ rest) all e f =
    let parts = or_nil (turn_fault s names w word) _ e in
    walk-filled s names (walked s.rules names w word) rest all parts.1 (walked_from-filled s names w.stopped w word all parts.0 f)

-- ---- after the walk

default_rows-filled : (id : Text) (how : Reading) (values : List Text) (rows : List Row) → Filled rows → Filled (default_rows id how values rows)
default_rows-filled id how [] rows f = f
default_rows-filled id how (v ∷ vs) rows f = with_values-filled id how _ (v ∷ vs) rows tt f

defaults-filled : (rows : List Row) (c : List Rule) → Filled rows → Filled (fold with_default rows c)
defaults-filled rows [] f = f
defaults-filled rows (a ∷ rest) f =
    defaults-filled (with_default rows a) rest (filled_cond (has_row a.id rows) _ _ f (default_rows-filled a.id (reading_by a) a.defaults rows f))

-- a level without a fault, in which nothing is entered: its rows have values, and it passed the last checks
pub record IsPassed (s : Shape) (words : List Text) : Type 0 where
  pub rows : Filled (rows_after s.rules [] words)
  pub checked : check_fault s (rows_after s.rules [] words) false ≡ []

pub passed : (s : Shape) (words : List Text) → AllFill s.rules → level_fault s [] nothing_held words false [] ≡ [] → IsPassed s words
passed s words all e =
    let end : Held = (walk s.rules [] nothing_held words).held in
    let walking = or_nil (walk_fault s [] (walk_from nothing_held) words) _ e in
    let settling = or_nil (settle_fault s.rules s.args_override_self end) _ walking.1 in
    let rest = or_nil _ (check_fault s (finished s.rules end) false) settling.1 in
    record {
      rows = defaults-filled (settled s.rules end).rows s.rules
          (settled-filled s.rules s.args_override_self end all settling.0 (walk-filled s [] (walk_from nothing_held) words all walking.0 tt));
      checked = rest.1;
    }

-- ---- what is given

found-filled : (test : Row → Bool) (rows : List Row) → Filled rows → IfSome (find test rows) (λ r. HasValue r.values)
found-filled test [] f = tt
found-filled test (r ∷ rs) f = chosen (test r) (found-filled test rs f.1)
  where
    chosen : (b : Bool) → IfSome (find test rs) (λ r. HasValue r.values) → IfSome (cond b (Some r) (find test rs)) (λ r. HasValue r.values)
    chosen true g = f.0
    chosen false g = g

first_value : (values : List Text) → HasValue values → (v : Text) × (slice_get values 0 ≡ Some v)
first_value [] h = absurd h
first_value (v ∷ vs) h = (v, refl)

-- an argument that is given has a first value
pub given_first : (id : Text) (rows : List Row) → Filled rows → not (is_given id rows) ≡ false → (v : Text) × (first_of id rows ≡ Some v)
given_first id rows f = found (find (λ r. bytes_eq r.id id) rows) (found-filled _ rows f)
  where
    found : (o : Option Row) → IfSome o (λ r. HasValue r.values) → not (option_map_or (λ r. explicit_source r.source) o false) ≡ false
        → (v : Text) × (option_and_then (λ r. slice_get r.values 0) o ≡ Some v)
    found None h e = cc e
    found (Some r) h e = first_value r.values h

-- ---- where the walk stops

-- a stop that is not at `help`
abbrev pub IsNoHelp : Option (Text × List Text) → Type 0
IsNoHelp stopped = IfSome stopped (λ p. bytes_eq p.0 (codes "help") ≡ false)

abbrev StepsNoHelp : Step → Type 0
StepsNoHelp (subcommand name) = bytes_eq name (codes "help") ≡ false
StepsNoHelp other = Unit {0}

plain-no_help : (c : List Rule) (waiting : Waiting) (word : Text) (h : Held) → StepsNoHelp (plain_word c waiting word h).1
plain-no_help c (option id) word h = tt
plain-no_help c idle word h = tt
plain-no_help c positional word h = tt

after_flag-no_help : (c : List Rule) (waiting : Waiting) (word : Text) (h : Held) (o : Outcome) → StepsNoHelp (after_flag c waiting word h o).1
after_flag-no_help c waiting word h done = tt
after_flag-no_help c waiting word h (waits id) = tt
after_flag-no_help c waiting word h plain = plain-no_help c waiting word h
after_flag-no_help c waiting word h refused = plain-no_help c waiting word h

short-no_help : (c : List Rule) (waiting : Waiting) (word : Text) (o : Option Text) (h : Held) → StepsNoHelp (short_or_plain c waiting word o h).1
short-no_help c waiting word None h = plain-no_help c waiting word h
short-no_help c waiting word (Some flags) h = after_flag-no_help c waiting word _ _

long-no_help : (c : List Rule) (waiting : Waiting) (word : Text) (o : Option (Text × Option Text)) (h : Held) → StepsNoHelp (long_or_other c waiting word o h).1
long-no_help c waiting word (Some p) h = after_flag-no_help c waiting word _ _
long-no_help c waiting word None h = short-no_help c waiting word (short_of word) h

no_kinds : (b : Bool) (k : ErrorKind) (ks : Kinds) → cond b (k ∷ ks) [] ≡ [] → b ≡ false
no_kinds true k ks e = cc e
no_kinds false k ks e = refl

and_true : (b : Bool) → (b && true) ≡ b
and_true true = refl
and_true false = refl

other-no_help : (s : Shape) (o : Option Text) (waiting : Waiting) (position : ℕ) (word : Text) (h : Held) → s.disable_help_subcommand ≡ false
    → other_fault s o word h ≡ [] → StepsNoHelp (subcommand_or_other s.rules o waiting position word h).1
other-no_help s (Some name) waiting position word h enabled e =
    let test : (bytes_eq name (codes "help") && not s.disable_help_subcommand) ≡ bytes_eq name (codes "help") =
    ap (λ (b : Bool). bytes_eq name (codes "help") && not b) enabled ∙ and_true (bytes_eq name (codes "help")) in
    sym test ∙ no_kinds _ _ _ e
other-no_help s None waiting position word h enabled e = chosen (bytes_eq word (45 ∷ 45 ∷ []))
  where
    chosen : (b : Bool) → StepsNoHelp (cond b (h, trailing position) (long_or_other s.rules waiting word (long_of word) h)).1
    chosen true = tt
    chosen false = long-no_help s.rules waiting word (long_of word) h

word-no_help : (s : Shape) (names : Names) (is_trailing : Bool) (waiting : Waiting) (position : ℕ) (word : Text) (h : Held) → s.disable_help_subcommand ≡ false
    → word_fault s names is_trailing waiting word h ≡ [] → StepsNoHelp (word_met s.rules names is_trailing waiting position word h).1
word-no_help s names true waiting position word h enabled e = tt
word-no_help s names false waiting position word h enabled e = other-no_help s (subcommand_met names waiting word) waiting position word h enabled e

to_positional-no_help : (c : List Rule) (o : Option Rule) (word : Text) (w : Walk) (h : Held) → IsNoHelp w.stopped → IsNoHelp (to_positional c o word w h).stopped
to_positional-no_help c None word w h n = n
to_positional-no_help c (Some a) word w h n = tt

after_step-no_help : (c : List Rule) (word : Text) (w : Walk) (h : Held) (t : Step) → StepsNoHelp t → IsNoHelp w.stopped → IsNoHelp (after_step c word w h t).stopped
after_step-no_help c word w h (next waiting) s n = n
after_step-no_help c word w h (trailing position) s n = n
after_step-no_help c word w h (subcommand name) s n = s
after_step-no_help c word w h value s n = to_positional-no_help c (arg_by_index c w.position) word w h n

walked_from-no_help : (s : Shape) (names : Names) (stopped : Option (Text × List Text)) (w : Walk) (word : Text) → s.disable_help_subcommand ≡ false
    → cond (is_some stopped) [] (or_else (word_fault s names w.is_trailing w.waiting word w.held)
    (step_fault s w.position (word_met s.rules names w.is_trailing w.waiting w.position word w.held).0 (word_met s.rules names w.is_trailing w.waiting w.position word w.held).1)) ≡ []
    → IsNoHelp stopped → IsNoHelp w.stopped → IsNoHelp (walked_from s.rules names stopped w word).stopped
walked_from-no_help s names (Some p) w word enabled e n m = n
walked_from-no_help s names None w word enabled e n m =
    let parts = or_nil _ _ e in
    let met = word_met s.rules names w.is_trailing w.waiting w.position word w.held in
    after_step-no_help s.rules word w met.0 met.1 (word-no_help s names w.is_trailing w.waiting w.position word w.held enabled parts.0) m

-- a walk without a fault does not stop at `help`
pub walk-no_help : (s : Shape) (names : Names) (w : Walk) (words : List Text) → s.disable_help_subcommand ≡ false → walk_fault s names w words ≡ []
    → IsNoHelp w.stopped → IsNoHelp (fold (walked s.rules names) w words).stopped
unfolding walked walk_fault
walk-no_help s names w [] enabled e n = n
walk-no_help s names w (word ∷ rest) enabled e n =
    let parts = or_nil (turn_fault s names w word) _ e in
    walk-no_help s names (walked s.rules names w word) rest enabled parts.1 (walked_from-no_help s names w.stopped w word enabled parts.0 n n)
