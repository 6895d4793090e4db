-- The texts about parameter sets.
use Rattle.std.specs.Prelude.{ℕ, List, [], ◌∷◌, ◌++◌, codes}
use Rattle.std.specs.Fmt.{decimal}
use Rattle.slh_params.specs.Params.{h, m, pk_len, sk_len, sig_len}
use Rattle.slh_params.specs.Label.{label}
use Rattle.slh_params.specs.ParamSet.{params}
use Rattle.slh_params.specs.declared.param_set.ParamSet.{ParamSet}

-- a number of a set, as ` NAME=NUMBER`
abbrev pub number_text : List ℕ → ℕ → List ℕ
number_text name x = codes " " ++ name ++ codes "=" ++ decimal x

-- a set's label and the numbers of its hypertree
abbrev pub tree_text : ParamSet → List ℕ
tree_text set = let p = params set in
    label set ++ (number_text (codes "n") p.n ++ (number_text (codes "h") (h p) ++ (number_text (codes "d") p.d ++ number_text (codes "hp") p.hp)))

-- the numbers of a set's FORS trees and digests, and the lengths of its keys and signatures in bytes
abbrev pub length_text : ParamSet → List ℕ
length_text set = let p = params set in
    number_text (codes "a") p.a ++ (number_text (codes "k") p.k ++ (number_text (codes "m") (m p)
    ++ (number_text (codes "pk") (pk_len p) ++ (number_text (codes "sk") (sk_len p) ++ number_text (codes "sig") (sig_len p)))))

-- the line of a set
unfoldable pub line : ParamSet → List ℕ
line set = tree_text set ++ length_text set ++ 10 ∷ []

-- one line for each set of a list
abbrev pub lines : List ParamSet → List ℕ
lines [] = []
lines (set ∷ rest) = line set ++ lines rest
