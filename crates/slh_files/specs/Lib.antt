-- cited by public clauses
pub use Rattle.slh_key_files.specs.Keys
pub use Rattle.slh_key_files.specs.FileFault
pub use Rattle.slh_key_files.specs.Lines
pub use Rattle.slh_key_files.specs.KeyFile
pub use Rattle.slh_vectors.specs.Cases
pub use Rattle.slh_vectors.specs.Sizes
pub use Rattle.slh_vectors.specs.Reading
pub use Rattle.slh_vectors.specs.Grammar
pub use Rattle.slh_vectors.specs.Report
pub use Rattle.slh_vectors.specs.Outcomes
