-- A token at a place of a text, and the token in front of what stands from there on.
use Rattle.std.proofs.Common.{◌≡◌, ℕ, ◌+◌, ◌-◌, ◌<◌, List, [], ◌∷◌, ◌++◌, ⊎_elim, Option, Some, None, length, take, drop, arith, refl, sym, ap, subst, ◌∙◌}
use Rattle.std.specs.Char.{is_ascii_digit}
use Rattle.std.specs.Prelude.{slice_range, IfNone}
use Rattle.std.proofs.lemmas.Bool.{cond_both}
use Rattle.std.proofs.lemmas.List.{length-append, length-drop, take-append-drop, drop-drop, take_rest}
use Rattle.common_laws.proofs.Lists.{range_at, range_length, rest_at}
use Rattle.sql_token.specs.declared.class.Class.{Class}
use Rattle.sql_token.specs.declared.class.Class.TheVariants.{Letter, Digit, Point, Apostrophe, Sign, Bracket, Other}
use Rattle.sql_token.specs.declared.token.Token.{Token}
use Rattle.sql_token.specs.declared.token.TokenKind.{TokenKind}
use Rattle.sql_token.specs.declared.token.TokenKind.TheVariants.{Quoted, Str, Op}
use Rattle.sql_token.specs.Byte.{begins}
use Rattle.sql_token.specs.Filler.{BeginsComment}
use Rattle.sql_token.specs.Form.{IsForm}
use Rattle.sql_token.specs.Scan.{class_of, front_by, front, operator_len, quote_len, bracket_len}
use Rattle.sql_token.specs.Token.{span, is_spoiled, IsTokenAt}
use Rattle.sql_token.proofs.Fronts.{NoFront, IsFront, IsOfClass, Tells, TellsLength, is_of_class, not_empty, of_kind_tells, form_positive}
use Rattle.sql_token.proofs.Words.{word_or_blob_tells}
use Rattle.sql_token.proofs.Enclosed.{string_tells, name_tells, bracket_tells}
use Rattle.sql_token.proofs.Numbers.{digit_tells, point_tells}
use Rattle.sql_token.proofs.Operators.{other_tells, point_alone_tells}

tells_by : (c : Class) (b : ℕ) (bytes : List ℕ) → class_of b ≡ c → IsOfClass c b → Tells (b ∷ bytes) (front_by c b bytes)
tells_by Letter b bytes is fact = word_or_blob_tells b bytes is fact
tells_by Digit b bytes is fact = digit_tells b bytes is fact
tells_by Point b bytes is fact =
    subst (λ k. Tells (k ∷ bytes) (front_by Point k bytes)) (sym fact)
    (cond_both (begins is_ascii_digit bytes) _ _ (Tells (46 ∷ bytes)) (point_tells bytes)
    (λ none. of_kind_tells (46 ∷ bytes) Op (operator_len (46 ∷ bytes)) (point_alone_tells bytes none)))
tells_by Apostrophe b bytes is fact =
    of_kind_tells (b ∷ bytes) Str (quote_len b bytes) (subst (λ k. TellsLength (k ∷ bytes) Str (quote_len k bytes)) (sym fact) (string_tells bytes))
tells_by Sign b bytes is fact = of_kind_tells (b ∷ bytes) Quoted (quote_len b bytes) (name_tells b bytes fact)
tells_by Bracket b bytes is fact =
    of_kind_tells (b ∷ bytes) Quoted (bracket_len bytes) (subst (λ k. TellsLength (k ∷ bytes) Quoted (bracket_len bytes)) (sym fact) (bracket_tells bytes))
tells_by Other b bytes is fact = of_kind_tells (b ∷ bytes) Op (operator_len (b ∷ bytes)) (other_tells b bytes is)

none_in_nothing : NoFront []
none_in_nothing kind [] rest split form closed longest = not_empty kind form
none_in_nothing kind (b ∷ bytes) rest split form closed longest = absurd (omega (arith, ap length split))

-- what is found in front is the token there, and where nothing is, none is
pub front_tells : (bytes : List ℕ) → Tells bytes (front bytes)
unfolding front
front_tells [] = none_in_nothing
front_tells (b ∷ bytes) = tells_by (class_of b) b bytes refl (is_of_class b)

-- the token and what stands behind it
pub split_at_token : (text : List ℕ) (t : Token) → IsTokenAt text t → drop t.start text ≡ span text t ++ drop t.end text
split_at_token text t token =
    let behind : t.start + (t.end - t.start) ≡ t.end = omega (arith, token.ascends) in
    sym (take-append-drop (t.end - t.start) (drop t.start text)) ∙ ap (λ l. span text t ++ l) (drop-drop (t.end - t.start) t.start text ∙ ap (λ k. drop k text) behind)

-- the token in front stands at the place
pub token_from_front : (text : List ℕ) (at : ℕ) (kind : TokenKind) (len : ℕ) → at < length text → (BeginsComment text at → ⊥) → IsFront (drop at text) kind len
    → IsTokenAt text (record { kind = kind; start = at; end = at + len })
token_from_front text at kind len within free found =
    let best = found.best in
    let range = range_at text best.front best.rest at (at + len) best.split (omega (arith, best.length_is)) in
    record {
      ascends = omega (arith, best.length_is, form_positive kind best.front best.form);
      within = omega (arith, ap length best.split, length-append best.front best.rest, length-drop at text, best.length_is);
      form = subst (IsForm kind) (sym range) best.form;
      longest = λ other end longer bound form.
          ⊎_elim
          (λ less. omega (arith, less, range_length text at end bound))
          (λ same. omega (arith, same.0, range_length text at end bound))
          (best.most other (slice_range text at end) (drop (end - at) (drop at text)) (sym (take-append-drop (end - at) (drop at text))) form);
      free_of_comment = free;
      closed = ap (λ l. is_spoiled kind l (drop (at + len) text)) range ∙ ap (is_spoiled kind best.front) (rest_at text best.front best.rest at (at + len) best.split (omega (arith, best.length_is))) ∙ found.closed;
    }

-- where none is in front, none stands at the place
pub none_from_front : (text : List ℕ) (at : ℕ) → NoFront (drop at text) → (t : Token) → t.start ≡ at → IsTokenAt text t → ⊥
none_from_front text at none t starts token =
    subst (λ k. NoFront (drop k text)) (sym starts) none t.kind (span text t) (drop t.end text) (split_at_token text t token) token.form token.closed
    (λ other longer rest split more form.
    token.longest other (t.start + length longer)
    (omega (arith, more, range_length text t.start t.end token.within, token.ascends))
    (omega (arith, ap length split, length-append longer rest, length-drop t.start text, token.ascends, token.within))
    (subst (IsForm other) (sym (range_at text longer rest t.start (t.start + length longer) split refl)) form))

-- what the scan of a text from a place on says of that place
pub token_found : (text : List ℕ) (at : ℕ) (answer : Option (TokenKind × ℕ)) (kind : TokenKind) (len : ℕ) → at < length text → (BeginsComment text at → ⊥)
    → answer ≡ front (take (length text - at) (drop at text)) → answer ≡ Some (kind, len) → IsTokenAt text (record { kind = kind; start = at; end = at + len })
token_found text at answer kind len within free is found =
    token_from_front text at kind len within free
    (subst (Tells (drop at text)) (ap front (sym (take_rest text at)) ∙ sym is ∙ found) (front_tells (drop at text)))

pub no_token_found : (text : List ℕ) (at : ℕ) (answer : Option (TokenKind × ℕ)) → answer ≡ front (take (length text - at) (drop at text)) → answer ≡ None
    → (t : Token) → t.start ≡ at → IsTokenAt text t → ⊥
no_token_found text at answer is none =
    none_from_front text at (subst (Tells (drop at text)) (ap front (sym (take_rest text at)) ∙ sym is ∙ none) (front_tells (drop at text)))

-- a token at the place is the one in front
record IsOne (t : Token) (kind : TokenKind) (len : ℕ) : Type 0 where
  kind_is : t.kind ≡ kind
  length_is : t.end ≡ t.start + len

token_is_front : (text : List ℕ) (t : Token) (kind : TokenKind) (len : ℕ) → IsTokenAt text t → IsFront (drop t.start text) kind len → IsOne t kind len
token_is_front text t kind len token found =
    let best = found.best in
    let measured = range_length text t.start t.end token.within in
    ⊎_elim
    (λ shorter. absurd (token.longest kind (t.start + len) (omega (arith, shorter, measured, token.ascends))
    (omega (arith, ap length best.split, length-append best.front best.rest, length-drop t.start text, best.length_is, token.ascends, token.within))
    (subst (IsForm kind) (sym (range_at text best.front best.rest t.start (t.start + len) best.split (omega (arith, best.length_is)))) best.form)))
    (λ same. record { kind_is = same.1; length_is = omega (arith, same.0, measured, token.ascends) })
    (best.most t.kind (span text t) (drop t.end text) (split_at_token text t token) token.form)

token_by : (text : List ℕ) (t u : Token) (answer : Option (TokenKind × ℕ)) → Tells (drop t.start text) answer → IsTokenAt text t → IsTokenAt text u → t.start ≡ u.start → (t.kind ≡ u.kind) × (t.end ≡ u.end)
token_by text t u None tells one two same = absurd (none_from_front text t.start tells t refl one)
token_by text t u (Some found) tells one two same =
    let first = token_is_front text t found.0 found.1 one tells in
    let second = token_is_front text u found.0 found.1 two (subst (λ k. IsFront (drop k text) found.0 found.1) same tells) in
    (first.kind_is ∙ sym second.kind_is, omega (arith, first.length_is, second.length_is, same))

-- at one place stands one token
pub token_one : (text : List ℕ) (t u : Token) → IsTokenAt text t → IsTokenAt text u → t.start ≡ u.start → t ≡ u
token_one text t u one two same =
    let parts = token_by text t u (front (drop t.start text)) (front_tells (drop t.start text)) one two same in
    λ i. record { kind = parts.0 i; start = same i; end = parts.1 i }

-- a fact that holds at any answer holds at none
pub none_said : (answer : Option Token) (fact : Type 0) → fact → IfNone answer fact
none_said None fact holds = holds
none_said (Some t) fact holds = tt
