use Rattle.std.proofs.Common.{◌≡◌, ℕ, List, refl}
use Rattle.sql_token.specs.declared.token.TokenKind.{TokenKind}
use Rattle.sql_token.specs.declared.token.TokenKind.TheVariants.{Word, Quoted, Str, Blob, Int, Hex, Float, Op}
use Rattle.sql_tree.specs.declared.nesting.Effect.TheVariants.{Keeps}
use Rattle.sql_tree.specs.Nesting.{effect_by, effect_of}
use Rattle.sql_tree.proofs.nesting.effect_of.Goals as goal

-- a token that is no word and no operator keeps the levels
other_keeps : (kind : TokenKind) (bytes : List ℕ) → (kind ≡ Word → ⊥) → (kind ≡ Op → ⊥) → Keeps ≡ effect_by kind bytes
other_keeps Word bytes no_word no_op = absurd (no_word refl)
other_keeps Quoted bytes no_word no_op = refl
other_keeps Str bytes no_word no_op = refl
other_keeps Blob bytes no_word no_op = refl
other_keeps Int bytes no_word no_op = refl
other_keeps Hex bytes no_word no_op = refl
other_keeps Float bytes no_word no_op = refl
other_keeps Op bytes no_word no_op = absurd (no_op refl)

pub returns-in_default : goal.returns-in_default
unfolding effect_of
returns-in_default c = other_keeps _ _ c.in_default.not-Word c.in_default.not-Op
