-- The key file of seeds.
use Rattle.std.proofs.Common.{◌≡◌, Some, ap, subst, sym, ◌∙◌}
use Rattle.clap.specs.Words.{Text}
use Rattle.slh_core.specs.Keys.{Key}
use Rattle.slh_subtrees.specs.CutTrees.{CutTrees}
use Rattle.slh_io.specs.Devices.{SourceState}
use Rattle.slh_key_files.specs.KeyFile.{key_text}
use Rattle.slh_key_files.specs.declared.key_kind.KeyKind.TheVariants.{Secret}
use Rattle.slh_params.specs.Label.{set_of_label}
use Rattle.slh_params.specs.declared.param_set.ParamSet.{ParamSet}
use Rattle.slh_tool.specs.Cuts.{IsCutting}
use Rattle.slh_tool.specs.Keys.{key_of_seeds}
use Rattle.slh_tool.specs.Replies.{WritesKey}
use Rattle.slh_tool.specs.Requests.{KeygenOptions}
use Rattle.slh_tool.specs.Seeds.{AreSeeds}

-- the key of the named set and of the seeds that were read is written
pub key_written : (options : KeygenOptions) (old new : SourceState) (set : ParamSet) (cutting : CutTrees) (seeds : Text) (key : Key) (text : Text)
    → set_of_label options.set ≡ Some set → IsCutting options.work set cutting → AreSeeds set old new seeds → key.set ≡ set → key ≡ key_of_seeds set seeds
    → text ≡ key_text Secret key → WritesKey options old new text
key_written options old new set cutting seeds key text named cut read same generated written =
    let e : set ≡ key.set = sym same in (
      key,
      record {
        set = named ∙ ap (λ (s : ParamSet). Some s) e;
        seeds = seeds;
        read = subst (λ (s : ParamSet). AreSeeds s old new seeds) e read;
        generated = generated ∙ ap (λ (s : ParamSet). key_of_seeds s seeds) e;
      },
      (cutting, subst (λ (s : ParamSet). IsCutting options.work s cutting) e cut),
      written,
    )
