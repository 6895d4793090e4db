-- The command line of the program, as the result of a parse by `clap`.
use Rattle.std.specs.Prelude.{◌≡◌, true, false, List, [], ◌∷◌, ◌++◌, Some, codes, pos}
use Rattle.clap.specs.Words.{App, Rule, Shape, Text, new_app, new_rule, shape_of, with_subcommand}
use Rattle.clap.specs.Simple.{new_shape, on_top}
use Rattle.clap.specs.declared.builder.action.ArgAction.TheVariants.{SetTrue}
use Rattle.clap.specs.declared.Command.{Command}
use Rattle.clap.specs.declared.builder.value_parser.ValueParser.TheVariants as parsers
use Rattle.clap.specs.declared.Command.TheViews.{out-Command as fields_of}

-- an option with one value, which help gives a name
abbrev pub optional : Text → Rule
optional name = record (new_rule name) { long = Some name; value_names = 1 }

-- the same, and the arguments must give it
abbrev pub required : Text → Rule
required name = record (optional name) { required = true }

-- an option without a value
abbrev pub flag : Text → Rule
flag name = record (new_rule name) { long = Some name; action = Some SetTrue }

-- the number of workers, from 1 to 64, and 1 if the option is left out
abbrev pub workers_rule : Rule
workers_rule = record (optional (codes "workers")) { parser = Some (parsers.Signed (pos 1) (pos 64)); defaults = codes "1" ∷ [] }

-- the levels by which trees are cut, from 0 to 8, and 0 if the option is left out
abbrev pub levels_rule : Text → Rule
levels_rule name = record (optional name) { parser = Some (parsers.Signed (pos 0) (pos 8)); defaults = codes "0" ∷ [] }

-- for either kind of tree, the levels and the cut points
abbrev pub levels_rules : List Rule
levels_rules = levels_rule (codes "xmss-levels") ∷ levels_rule (codes "fors-levels") ∷ []

abbrev pub cuts_rules : List Rule
cuts_rules = optional (codes "xmss-cuts") ∷ optional (codes "fors-cuts") ∷ []

-- how the work is shared among workers
abbrev pub work_rules : List Rule
work_rules = workers_rule ∷ (levels_rules ++ cuts_rules)

-- a subcommand with its options
abbrev pub subcommand : Text → List Rule → Shape
subcommand name rules = record (new_shape name) { rules = rules }

abbrev pub params_shape : Shape
params_shape = subcommand (codes "params") (optional (codes "set") ∷ [])

abbrev pub root_shape : Shape
root_shape = subcommand (codes "root") (required (codes "set") ∷ [])

abbrev pub keygen_shape : Shape
keygen_shape = subcommand (codes "keygen") (required (codes "set") ∷ work_rules)

abbrev pub public_shape : Shape
public_shape = subcommand (codes "public") (required (codes "key") ∷ [])

-- the key and the message, and the form in which the message is signed
abbrev pub message_rules : List Rule
message_rules = required (codes "key") ∷ required (codes "message") ∷ []

abbrev pub form_rules : List Rule
form_rules = optional (codes "context") ∷ optional (codes "prehash") ∷ []

-- the options of signing against hardware that fails
abbrev pub safety_rules : List Rule
safety_rules = optional (codes "random") ∷ flag (codes "twice") ∷ []

abbrev pub sign_shape : Shape
sign_shape = subcommand (codes "sign") (message_rules ++ safety_rules ++ form_rules ++ work_rules)

abbrev pub verify_shape : Shape
verify_shape = subcommand (codes "verify") (message_rules ++ required (codes "signature") ∷ form_rules)

abbrev pub check_shape : Shape
check_shape = subcommand (codes "check") (required (codes "key") ∷ [])

abbrev pub upgrade_shape : Shape
upgrade_shape = subcommand (codes "upgrade") (required (codes "key") ∷ [])

abbrev pub vectors_shape : Shape
vectors_shape = subcommand (codes "vectors") (required (codes "file") ∷ workers_rule ∷ [])

abbrev pub HasNoGlobals : Command → Type 0
HasNoGlobals c = (fields_of c).has_globals ≡ false

-- the form of a subcommand, and that it may go into `slh`
abbrev pub CommandIs : Shape → Command → Type 0
CommandIs s c = (shape_of c ≡ s) × HasNoGlobals c

-- a shape with more options at its end
abbrev pub with_options : Shape → List Rule → Shape
with_options s [] = s
with_options s (r ∷ rest) = with_options (record s { rules = s.rules ++ r ∷ [] }) rest

-- a command has these options more than another
abbrev pub AddsOptions : Command → List Rule → Command → Type 0
AddsOptions old rules new = (shape_of new ≡ with_options (shape_of old) rules) × HasNoGlobals new

abbrev pub with_subcommands : App → List Shape → App
with_subcommands a [] = a
with_subcommands a (s ∷ rest) = with_subcommands (with_subcommand a s) rest

-- the program: its arguments are those after its name, and it has a version
abbrev pub no_command : App
no_command = on_top (λ s. record s { no_binary_name = true; has_version = true }) (new_app (codes "slh"))

-- the commands that take no key file
abbrev pub seed_app : App
seed_app = with_subcommands no_command (params_shape ∷ root_shape ∷ keygen_shape ∷ [])

-- and `public` and `sign`
abbrev pub message_app : App
message_app = with_subcommands seed_app (public_shape ∷ sign_shape ∷ [])

-- all the commands on key files
abbrev pub key_app : App
key_app = with_subcommands message_app (verify_shape ∷ check_shape ∷ upgrade_shape ∷ [])

-- the whole program
abbrev pub slh_app : App
slh_app = with_subcommands key_app (vectors_shape ∷ [])
