-- The name that a token spells: there is one.
use Rattle.std.proofs.Common.{◌≡◌, ℕ, ◌-◌, ◌&&◌, List, [], ◌∷◌, ◌++◌, ⊎_elim, Result, Ok, Err, Vec, Global, length, take, drop, get_or, eqb, arith, refl, sym, ap, subst, ◌∙◌}
use Rattle.std.specs.declared.alloc.AllocError.{AllocError}
use Rattle.std.specs.Prelude.{slice_range, IfOk}
use Rattle.std.proofs.lemmas.Bool.{and_from, and_left, cond-true, cond-false, cases_eq, eq-eqb, ne_eqb}
use Rattle.std.proofs.lemmas.List.{length-append, take_at}
use Rattle.sql_token.specs.declared.token.TokenKind.{TokenKind}
use Rattle.sql_token.specs.declared.token.TokenKind.TheVariants.{Word, Quoted, Str, Blob, Int, Hex, Float, Op}
use Rattle.sql_token.specs.Form.{IsForm, doubled, quoted}
use Rattle.sql_token.specs.Names.{IsNameKind, Spells}
use Rattle.sql_token.specs.Scan.{undoubled}
use Rattle.sql_token.proofs.Enclosed.{doubled-sign, doubled-other}

undoubled-other : (sign b : ℕ) (bytes : List ℕ) → (b ≡ sign → ⊥) → undoubled sign (b ∷ bytes) ≡ b ∷ undoubled sign bytes
undoubled-other sign b [] apart = refl
undoubled-other sign b (c ∷ bytes) apart =
    ap (λ l. b ∷ l) (cond-false (eqb b sign && eqb c sign) (undoubled sign bytes) (undoubled sign (c ∷ bytes)) (and_left (eqb b sign) (eqb c sign) (ne_eqb b sign apart)))

undoubled-sign : (sign b : ℕ) (bytes : List ℕ) → b ≡ sign → undoubled sign (b ∷ b ∷ bytes) ≡ b ∷ undoubled sign bytes
undoubled-sign sign b bytes same =
    ap (λ l. b ∷ l) (cond-true (eqb b sign && eqb b sign) (undoubled sign bytes) (undoubled sign (b ∷ bytes)) (and_from (eqb b sign) (eqb b sign) (eq-eqb b sign same) (eq-eqb b sign same)))

-- doubled signs become one again
undoubled-doubled : (sign : ℕ) (name : List ℕ) → undoubled sign (doubled sign name) ≡ name
undoubled-doubled sign [] = refl
undoubled-doubled sign (b ∷ name) =
    ⊎_elim
    (λ same. ap (undoubled sign) (doubled-sign sign b name same) ∙ undoubled-sign sign b (doubled sign name) same ∙ ap (λ l. b ∷ l) (undoubled-doubled sign name))
    (λ apart. ap (undoubled sign) (doubled-other sign b name apart) ∙ undoubled-other sign b (doubled sign name) apart ∙ ap (λ l. b ∷ l) (undoubled-doubled sign name))
    (cases_eq b sign)

-- the bytes between the first and the last
inside : (a z : ℕ) (body bytes : List ℕ) → bytes ≡ a ∷ (body ++ z ∷ []) → slice_range bytes 1 (length bytes - 1) ≡ body
inside a z body bytes split =
    ap (take (length bytes - 1 - 1)) (ap (drop 1) split) ∙ take_at body (z ∷ []) (length bytes - 1 - 1) (omega (arith, ap length split, length-append body (z ∷ [])))

between_signs : (sign : ℕ) (name bytes : List ℕ) → bytes ≡ quoted sign name → undoubled (get_or bytes 0 0) (slice_range bytes 1 (length bytes - 1)) ≡ name
between_signs sign name bytes split =
    ap (λ l. undoubled (get_or l 0 0) (slice_range bytes 1 (length bytes - 1))) split ∙ ap (undoubled sign) (inside sign sign (doubled sign name) bytes split) ∙ undoubled-doubled sign name

-- the name between signs
pub name_between : (kind : TokenKind) (bytes name : List ℕ) → (kind ≡ Word → ⊥) → (get_or bytes 0 0 ≡ 91 → ⊥) → Spells kind bytes name → undoubled (get_or bytes 0 0) (slice_range bytes 1 (length bytes - 1)) ≡ name
name_between Word bytes name quotes sign spells = absurd (quotes refl)
name_between Quoted bytes name quotes sign spells =
    ⊎_elim (between_signs 34 name bytes) (λ other. ⊎_elim (between_signs 96 name bytes) (λ bracket. absurd (sign (ap (λ l. get_or l 0 0) bracket.spelled))) other) spells
name_between Str bytes name quotes sign spells = between_signs 39 name bytes spells
name_between Blob bytes name quotes sign spells = absurd spells
name_between Int bytes name quotes sign spells = absurd spells
name_between Hex bytes name quotes sign spells = absurd spells
name_between Float bytes name quotes sign spells = absurd spells
name_between Op bytes name quotes sign spells = absurd spells

-- a token of a kind that spells names spells one
pub some_name : (kind : TokenKind) (bytes : List ℕ) → IsNameKind kind → IsForm kind bytes → (name : List ℕ) × Spells kind bytes name
some_name Word bytes named form = (bytes, refl)
some_name Quoted bytes named form = form
some_name Str bytes named form = form
some_name Blob bytes named form = absurd named
some_name Int bytes named form = absurd named
some_name Hex bytes named form = absurd named
some_name Float bytes named form = absurd named
some_name Op bytes named form = absurd named

-- what is read as the name that each spelling gives
pub record IsReadName (kind : TokenKind) (bytes : List ℕ) (read : Result (Vec ℕ Global) AllocError) : Type 0 where
  pub found : IfOk read (λ name. Spells kind bytes name.items)
  pub only : (name : List ℕ) → Spells kind bytes name → IfOk read (λ v. v.items ≡ name)

pub name_read : (kind : TokenKind) (bytes gives : List ℕ) (read : Result (Vec ℕ Global) AllocError) → IsNameKind kind → IsForm kind bytes
    → ((name : List ℕ) → Spells kind bytes name → gives ≡ name) → IfOk read (λ v. v.items ≡ gives) → IsReadName kind bytes read
name_read kind bytes gives (Ok v) named form each is =
    let some = some_name kind bytes named form in
    record { found = subst (Spells kind bytes) (sym (is ∙ each some.0 some.1)) some.1; only = λ name spells. is ∙ each name spells }
name_read kind bytes gives (Err fault) named form each is = record { found = tt; only = λ name spells. tt }
