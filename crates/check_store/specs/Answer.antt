-- What a check answers.
use Rattle.std.specs.Prelude.{ℕ, ◌≡◌}
use Rattle.ldc.specs.Lent.{Lent}
use Rattle.ldc.specs.Run.{check, letter_of}

-- The number is the definition's, and so is the letter that comes with it.
pub record Answers (m : Lent) (number letter : ℕ) : Type 0 where
  pub number_is : number ≡ check m
  pub letter-is : letter ≡ letter_of m number
