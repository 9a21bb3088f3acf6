pub mod headline
pub mod Symbols
pub mod Grammar
pub mod Nesting
pub mod Descent
pub mod Laws
pub mod Examples
pub mod inner
pub mod Beginnings
pub mod PrefixExamples
-- what it hands on of crates below
pub use Rattle.fv_lex.specs.declared.token.Symbol
pub use Rattle.fv_lex.specs.declared.form.Iteration
pub use Rattle.fv_lex.specs.declared.form.Side
pub use Rattle.fv_lex.specs.declared.form.Switch
pub use Rattle.fv_lex.specs.declared.form.Slider
pub use Rattle.fv_lex.specs.declared.form.Panel
pub use Rattle.fv_num.specs.declared.primitive.Primitive
