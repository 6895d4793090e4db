-- The lines of a list of sets.
use Rattle.std.proofs.Common.{◌≡◌, ℕ, ◌+◌, ◌<◌, ◌≤◌, List, ◌++◌, length, drop, get_or, append_assoc, append-nil, sym, ◌∙◌}
use Rattle.std.proofs.lemmas.List.{at_drop_all, at_drop_more}
use Rattle.slh_params.specs.declared.param_set.ParamSet.{ParamSet}
use Rattle.slh_tool.specs.Sets.{line, lines}

-- the lines of one more set
pub more_lines : (xs : List ParamSet) (i : ℕ) (d : ParamSet) (text : List ℕ) → i < length xs → text ++ lines (drop i xs) ≡ lines xs
    → (text ++ line (get_or xs i d)) ++ lines (drop (i + 1) xs) ≡ lines xs
more_lines xs i d text within done =
    append_assoc text (line (get_or xs i d)) (lines (drop (i + 1) xs))
    ∙ sym (at_drop_more (λ rest. text ++ lines rest) xs i d within) ∙ done

-- no set is left
pub whole_lines : (xs : List ParamSet) (i : ℕ) (text : List ℕ) → length xs ≤ i → text ++ lines (drop i xs) ≡ lines xs → text ≡ lines xs
whole_lines xs i text all done = sym (append-nil text) ∙ sym (at_drop_all (λ rest. text ++ lines rest) xs i all) ∙ done
