-- A first line that isn't decided is short.
use Rattle.std.proofs.Common.{ℕ, ◌≤◌, inl, inr, List, length, ◌∙◌, sym, arith}
use Rattle.ff_reader.proofs.AnswerLaws.{head_stays}
use Rattle.ff_reader.specs.Walks.{head_limit}
use Rattle.ff_y4m.specs.Heads as y4m
use Rattle.ff_y4m.specs.Lines.{longest_line}
use Rattle.ff_y4m.proofs.LineLaws.{option_cases, line_end_none}
use Rattle.ff_y4m.proofs.HeadLaws as y4m_laws

pub line_short : (bs : List ℕ) → y4m.IsOpen bs → length bs ≤ head_limit
line_short bs o = elim (option_cases (y4m.reading bs)) [
  | inl n ↦ let lt = line_end_none longest_line bs (y4m_laws.undecided bs n).1 in omega (arith, lt)
  | inr s ↦ let same = λ (more : List ℕ). head_stays y4m.reading y4m.early y4m_laws.reading-append bs more s.0 s.1 in
      absurd (o.4 (same o.0 ∙ sym (same o.1)))
]
