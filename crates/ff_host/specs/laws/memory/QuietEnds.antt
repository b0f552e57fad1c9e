-- A source and a sink that never fail, as contracts see them.
use Rattle.std.specs.Prelude.{ℕ, List}

-- a source: the name that it was opened on, and the bytes still to come
pub record QuietReading : Type 0 where
  pub name : List ℕ
  pub left : List ℕ

-- a sink: the name that it was created on, and the bytes that it holds
pub record QuietWriting : Type 0 where
  pub name : List ℕ
  pub holds : List ℕ
