-- Whether two identities are one is decided: each is spelled by a list of numbers.
use Rattle.std.proofs.Common.{◌≡◌, ◌==◌, ℕ, cond, ◌⊎◌, inl, inr, List, [], ◌∷◌, Option, Some, None, nat_eq, refl, sym, ap, ◌∙◌}
use Rattle.std.proofs.lemmas.Bool.{cases_Bool}
use Rattle.std.specs.Cmp.Lexicographic.{pointwise, bytes_decides}
use Rattle.name_scope.specs.declared.identity.Identity.{Identity}
use Rattle.name_rules.specs.Identities.{numbers_of}
use Rattle.name_scope.specs.declared.identity.Identity.TheVariants.{Object, Column, Rowid, Source, Cte, Result, Fixed}

abbrev first_or : List ℕ → ℕ
first_or [] = 0
first_or (x ∷ xs) = x

abbrev behind : List ℕ → List ℕ
behind [] = []
behind (x ∷ xs) = xs

-- the identity of this sort and these numbers
abbrev identity_of : ℕ → List ℕ → Identity
identity_of sort xs =
    cond (sort == 0) (Object (first_or xs))
    (cond (sort == 1) (Column (first_or xs) (first_or (behind xs)))
    (cond (sort == 2) (Rowid (first_or xs))
    (cond (sort == 3) (Source (first_or xs) (behind xs))
    (cond (sort == 4) (Cte (first_or xs) (behind xs))
    (cond (sort == 5) (Result (first_or xs) (behind (behind (behind xs))) (first_or (behind xs)) (first_or (behind (behind xs))))
    (cond (sort == 6) (Fixed (first_or xs) None) (Fixed (first_or xs) (Some (first_or (behind xs))))))))))

abbrev said : List ℕ → Option Identity
said [] = None
said (sort ∷ xs) = Some (identity_of sort xs)

said_again : (x : Option Identity) → said (numbers_of x) ≡ x
said_again None = refl
said_again (Some (Object a)) = refl
said_again (Some (Column a n)) = refl
said_again (Some (Rowid a)) = refl
said_again (Some (Source a p)) = refl
said_again (Some (Cte a p)) = refl
said_again (Some (Result a p i m)) = refl
said_again (Some (Fixed a None)) = refl
said_again (Some (Fixed a (Some k))) = refl

-- two identities, or none, are the same, or they are not
pub same_or_not : (x y : Option Identity) → (x ≡ y) ⊎ (x ≡ y → ⊥)
same_or_not x y =
    elim (cases_Bool (pointwise nat_eq (numbers_of x) (numbers_of y))) [
      | inl alike ↦ inl (sym (said_again x) ∙ ap said ((bytes_decides (numbers_of x) (numbers_of y)).0 alike) ∙ said_again y)
      | inr apart ↦ inr (λ same. let alike = (bytes_decides (numbers_of x) (numbers_of y)).1 (ap numbers_of same) in absurd cc)
    ]
