-- Refusals after a key was read.
use Rattle.std.proofs.Common.{◌≡◌, ◌⊎◌, ◌<◌, ◌≤◌, Bool, length, Option, OnOk, Result, Some, Ok, Err, IfOk, IfErr, IsErrAnd, inl, inr, subst, sym}
use Rattle.clap.specs.Words.{Text}
use Rattle.slh_core.specs.Keys.{Key}
use Rattle.slh_io.specs.Devices.{FilesState, SourceState}
use Rattle.slh_key_files.specs.declared.key_kind.KeyKind.TheVariants.{Public, Secret}
use Rattle.slh_params.specs.declared.param_set.ParamSet.{ParamSet}
use Rattle.slh_params.specs.Label.{set_of_label}
use Rattle.slh_params.specs.Params.{sig_len}
use Rattle.slh_params.specs.ParamSet.{params}
use Rattle.slh_core.specs.Messages.{message_in_form}
use Rattle.slh_core.specs.declared.form.Form.{Form}
use Rattle.slh_core.specs.declared.form.Form.TheVariants.{Pure}
use Rattle.slh_subtrees.specs.CutTrees.{CutTrees}
use Rattle.slh_tool.specs.Options.{HasForm, random_of, signature_of}
use Rattle.slh_tool.specs.Cuts.{HasCutting, IsCutting, RefusesCutting}
use Rattle.slh_tool.specs.Keys.{HoldsKey, RefusesSeedsOf}
use Rattle.slh_tool.proofs.Pieces.{judged_by_front}
use Rattle.slh_tool.specs.Reading.{IsFile, IsFrontOfFile, RefusesFile}
use Rattle.slh_tool.specs.Replies.{HasSignForm, JudgesFiles, JudgesMessage, RefusesKeygen, RefusesSign, RefusesSigning, RefusesVerify, RefusesVerifying, SignsMessage, SignsWith}
use Rattle.slh_tool.specs.Requests.{KeygenOptions, SignOptions, VerifyOptions}
use Rattle.slh_tool.specs.Seeds.{RefusesSeeds}
use Rattle.slh_tool.specs.declared.fault.Fault.{Fault}
use Rattle.slh_tool.specs.declared.fault.Fault.TheVariants.{BadCutting, BadHex, BadKeyLength, BadOption, BadSeeds, BadWords, Bad, ContextTooLong, FileTooLong, Missing, NoMemory, NotAList, NotJson, NotAKeyFile, ReadFailed, RunsDiffer, TrailingBytes, UnknownSet, WriteFailed}

-- `sign` is refused with a key that was read
pub sign_refused : {T : Type 0} (options : SignOptions) (old mid new : FilesState) (key : Key) (r : Result T Fault) → HoldsKey Secret old options.key key
    → mid ≡ old → IfErr r (RefusesSigning options key.set mid new) → IfErr r (RefusesSign options old new)
sign_refused options old mid new key (Ok x) held kept h = tt
sign_refused options old mid new key (Err e) held kept h = inr (key, held, subst (λ (s : FilesState). RefusesSigning options key.set s new e) kept h)

-- a message that was read is not signed
pub message_refused : {T : Type 0} (options : SignOptions) (set : ParamSet) (context message : Text) (old new : FilesState) (r : Result T Fault)
    → HasSignForm options set context → HasCutting options.work set → IsFile old options.message message
    → IfErr r (λ e. (e ≡ NoMemory) ⊎ ((e ≡ ContextTooLong) × (255 < length context))) → IfErr r (RefusesSigning options set old new)
message_refused options set context message old new (Ok x) form cut read h = tt
message_refused options set context message old new (Err e) form cut read h = inr (context, form, inr (cut, inr ((message, read), h)))

-- `verify` is refused with a key that was read
pub verify_refused : (options : VerifyOptions) (old mid new : FilesState) (key : Key) (e : Fault) → HoldsKey Public old options.key key
    → mid ≡ old → RefusesVerifying options mid new e → RefusesVerify options old new e
verify_refused options old mid new key e held kept h = inr (key, held, subst (λ (s : FilesState). RefusesVerifying options s new e) kept h)

-- no seeds of a named set were read
pub seeds_refused : (name : Text) (set : ParamSet) (old new : SourceState) (e : Fault) → set_of_label name ≡ Some set → RefusesSeeds set old new e → RefusesSeedsOf name old new e
seeds_refused name set old new NoMemory named h = absurd h
seeds_refused name set old new ContextTooLong named h = absurd h
seeds_refused name set old new BadCutting named h = absurd h
seeds_refused name set old new NotAKeyFile named h = absurd h
seeds_refused name set old new UnknownSet named h = absurd h
seeds_refused name set old new BadHex named h = absurd h
seeds_refused name set old new BadKeyLength named h = absurd h
seeds_refused name set old new TrailingBytes named h = absurd h
seeds_refused name set old new NotJson named h = absurd h
seeds_refused name set old new NotAList named h = absurd h
seeds_refused name set old new (Missing test member) named h = absurd h
seeds_refused name set old new (Bad test member) named h = absurd h
seeds_refused name set old new BadWords named h = absurd h
seeds_refused name set old new ReadFailed named h = (set, named, h)
seeds_refused name set old new WriteFailed named h = absurd h
seeds_refused name set old new BadSeeds named h = (set, named, h)
seeds_refused name set old new BadOption named h = absurd h
seeds_refused name set old new FileTooLong named h = absurd h
seeds_refused name set old new RunsDiffer named h = absurd h

-- `keygen` is refused for the cutting, or for the seeds
pub cutting_refused : (options : KeygenOptions) (set : ParamSet) (old new : SourceState) (e : Fault) → set_of_label options.set ≡ Some set
    → RefusesCutting options.work set e → RefusesKeygen options old new e
cutting_refused options set old new NoMemory named h = absurd h
cutting_refused options set old new ContextTooLong named h = absurd h
cutting_refused options set old new BadCutting named h = (set, named, inl h)
cutting_refused options set old new NotAKeyFile named h = absurd h
cutting_refused options set old new UnknownSet named h = absurd h
cutting_refused options set old new BadHex named h = absurd h
cutting_refused options set old new BadKeyLength named h = absurd h
cutting_refused options set old new TrailingBytes named h = absurd h
cutting_refused options set old new NotJson named h = absurd h
cutting_refused options set old new NotAList named h = absurd h
cutting_refused options set old new (Missing test member) named h = absurd h
cutting_refused options set old new (Bad test member) named h = absurd h
cutting_refused options set old new BadWords named h = absurd h
cutting_refused options set old new ReadFailed named h = absurd h
cutting_refused options set old new WriteFailed named h = absurd h
cutting_refused options set old new BadSeeds named h = absurd h
cutting_refused options set old new BadOption named h = (set, named, inl h)
cutting_refused options set old new FileTooLong named h = absurd h
cutting_refused options set old new RunsDiffer named h = absurd h

pub keygen_refused : (options : KeygenOptions) (set : ParamSet) (old new : SourceState) (e : Fault) → set_of_label options.set ≡ Some set
    → HasCutting options.work set → RefusesSeeds set old new e → RefusesKeygen options old new e
keygen_refused options set old new NoMemory named cut h = absurd h
keygen_refused options set old new ContextTooLong named cut h = absurd h
keygen_refused options set old new BadCutting named cut h = absurd h
keygen_refused options set old new NotAKeyFile named cut h = absurd h
keygen_refused options set old new UnknownSet named cut h = absurd h
keygen_refused options set old new BadHex named cut h = absurd h
keygen_refused options set old new BadKeyLength named cut h = absurd h
keygen_refused options set old new TrailingBytes named cut h = absurd h
keygen_refused options set old new NotJson named cut h = absurd h
keygen_refused options set old new NotAList named cut h = absurd h
keygen_refused options set old new (Missing test member) named cut h = absurd h
keygen_refused options set old new (Bad test member) named cut h = absurd h
keygen_refused options set old new BadWords named cut h = absurd h
keygen_refused options set old new ReadFailed named cut h = (set, named, inr (cut, h))
keygen_refused options set old new WriteFailed named cut h = absurd h
keygen_refused options set old new BadSeeds named cut h = (set, named, inr (cut, h))
keygen_refused options set old new BadOption named cut h = absurd h
keygen_refused options set old new FileTooLong named cut h = absurd h
keygen_refused options set old new RunsDiffer named cut h = absurd h

-- the message file of `sign` is not read
pub file_refused : (options : SignOptions) (set : ParamSet) (context : Text) (old new : FilesState) (e : Fault)
    → HasSignForm options set context → HasCutting options.work set → RefusesFile old new options.message e → RefusesSigning options set old new e
file_refused options set context old new e form cut h = inr (context, form, inr (cut, inl h))

-- what is signed with a key that was read
pub signed_with : {T : Type 0} (bytes : T → Text) (options : SignOptions) (old mid : FilesState) (key : Key) (r : Result T Fault) → HoldsKey Secret old options.key key
    → mid ≡ old → IfOk r (λ x. SignsWith options mid key (bytes x)) → IfOk r (λ x. SignsMessage options old (bytes x))
signed_with bytes options old mid key (Ok x) held kept h = (key, held, subst (λ (s : FilesState). SignsWith options s key (bytes x)) kept h)
signed_with bytes options old mid key (Err e) held kept h = tt

pub made : {T : Type 0} (bytes : T → Text) (options : SignOptions) (files : FilesState) (key : Key) (context : Text) (form : Form) (random : Option Text)
    (message : Text) (cutting : CutTrees) (r : Result T Fault) → HasForm options.form context form → random_of key.set options.random ≡ Some random
    → IsCutting options.work key.set cutting → IsFile files options.message message → OnOk r (length context ≤ 255)
    → IfOk r (λ x. bytes x ≡ signature_of key (message_in_form form context message) random) → IfOk r (λ x. SignsWith options files key (bytes x))
made bytes options files key context form random message cutting (Ok x) asked randomizer cut read short signed = record {
  context = context;
  form = form;
  random = random;
  message = message;
  cutting = cutting;
  asked = asked;
  randomizer = randomizer;
  cut = cut;
  read = read;
  short = short;
  signed = signed;
}
made bytes options files key context form random message cutting (Err e) asked randomizer cut read short signed = tt

-- the fault that `?` hands on
pub handed_on : {T : Type 0} (P : Fault → Type 0) (r : Result T Fault) (e : Fault) → IsErrAnd r (λ f. f ≡ e) → P e → IfErr r P
handed_on P (Ok x) e h p = tt
handed_on P (Err f) e h p = subst P (sym h) p

-- the verdict on a message is that on both files
pub judged_files : (options : VerifyOptions) (old mid : FilesState) (key : Key) (context front : Text) (r : Result Bool Fault) → mid ≡ old
    → IsFrontOfFile old options.signature (sig_len (params key.set)) front → IfOk r (JudgesMessage mid options.message key context front)
    → IfOk r (JudgesFiles options old key context Pure)
judged_files options old mid key context front (Ok answer) kept signature judged = record {
  message = judged.0;
  signature = signature.0;
  read = subst (λ (s : FilesState). IsFile s options.message judged.0) kept judged.1;
  signature_read = signature.1;
  truth = judged_by_front answer context key _ signature.0 front signature.2 judged.2;
}
judged_files options old mid key context front (Err e) kept signature judged = tt
