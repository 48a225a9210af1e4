-- The tokens of a text: how a list of them grows, and that there is one list at most.
use Rattle.std.proofs.Common.{◌≡◌, ℕ, zero, suc, ◌<◌, Bool, true, false, not, List, [], ◌∷◌, ◌++◌, ⊎_elim, length, drop, get_or, arith, add-zero, eqb, refl, sym, ap, subst, ◌∙◌}
use Rattle.std.specs.List.{list_all}
use Rattle.std.proofs.lemmas.Bool.{both_ways, eqb-true, or_cases, not-true}
use Rattle.std.proofs.lemmas.List.{append_assoc, append-nil, get_or-drop}
use Rattle.sql_token.specs.declared.class.Class.TheVariants.{Other}
use Rattle.sql_token.specs.declared.token.Token.{Token}
use Rattle.sql_token.specs.declared.token.TokenKind.{TokenKind}
use Rattle.sql_token.specs.declared.token.TokenKind.TheVariants.{Word, Quoted, Str, Blob, Int, Hex, Float, Op}
use Rattle.sql_token.specs.Byte.{is_blank, begins}
use Rattle.sql_token.specs.Filler.{IsFiller}
use Rattle.sql_token.specs.Form.{IsForm, operators, is_operator}
use Rattle.sql_token.specs.Scan.{class_of}
use Rattle.sql_token.specs.Token.{span, IsTokenAt, AreTokensIn, FirstBad}
use Rattle.sql_token.proofs.Fillers.{IsFree, IsFiller_none, fillers_meet, within_from}
use Rattle.sql_token.proofs.Fronts.{Suits, suits, operator_passes, not_empty, form_positive}
use Rattle.sql_token.proofs.Places.{split_at_token, token_one}

-- ---- no token begins with a blank

blank_class : (b : ℕ) → is_blank b ≡ true → class_of b ≡ Other
blank_class b blank =
    ⊎_elim (λ four. ⊎_elim (λ three. ⊎_elim (λ two. ⊎_elim
    (λ space. ap class_of (eqb-true b 32 space)) (λ tab. ap class_of (eqb-true b 9 tab)) (or_cases (eqb b 32) (eqb b 9) two))
    (λ line. ap class_of (eqb-true b 10 line)) (or_cases _ (eqb b 10) three))
    (λ feed. ap class_of (eqb-true b 12 feed)) (or_cases _ (eqb b 12) four))
    (λ return. ap class_of (eqb-true b 13 return)) (or_cases _ (eqb b 13) blank)

is_not_blank : List ℕ → Bool
is_not_blank bytes = not (begins is_blank bytes)

none_blank : list_all is_not_blank operators ≡ true
unfolding is_not_blank
none_blank = refl

no_blank_operator : (b : ℕ) (tail : List ℕ) → is_operator (b ∷ tail) ≡ true → is_blank b ≡ false
unfolding is_not_blank
no_blank_operator b tail form = not-true (is_blank b) (operator_passes is_not_blank (b ∷ tail) none_blank form)

no_blank_by : (kind : TokenKind) (b : ℕ) (tail : List ℕ) → Suits kind Other → IsForm kind (b ∷ tail) → is_blank b ≡ false
no_blank_by Op b tail fits form = no_blank_operator b tail form
no_blank_by Word b tail fits form = absurd fits
no_blank_by Quoted b tail fits form = absurd fits
no_blank_by Str b tail fits form = absurd fits
no_blank_by Blob b tail fits form = absurd fits
no_blank_by Int b tail fits form = absurd fits
no_blank_by Hex b tail fits form = absurd fits
no_blank_by Float b tail fits form = absurd fits

no_blank_form : (kind : TokenKind) (front : List ℕ) → IsForm kind front → begins is_blank front ≡ true → ⊥
no_blank_form kind [] form blank = not_empty kind form
no_blank_form kind (b ∷ tail) form blank =
    both_ways (is_blank b) (no_blank_by kind b tail (subst (Suits kind) (blank_class b blank) (suits kind b tail form)) form) blank

begins_at : (p : ℕ → Bool) (front rest : List ℕ) → 0 < length front → p (get_or (front ++ rest) 0 0) ≡ begins p front
begins_at p [] rest some = absurd (omega arith)
begins_at p (b ∷ front) rest some = refl

-- a token begins where no blank and no comment does
pub token_free : (text : List ℕ) (t : Token) → IsTokenAt text t → IsFree text t.start
token_free text t token = record {
  no_blank = λ blank.
      let split = split_at_token text t token in
      let first : get_or text t.start 0 ≡ get_or (span text t ++ drop t.end text) 0 0 =
      ap (λ k. get_or text k 0) (sym (add-zero t.start)) ∙ sym (get_or-drop t.start text 0 0) ∙ ap (λ l. get_or l 0 0) split in
      no_blank_form t.kind (span text t) token.form (sym (begins_at is_blank (span text t) (drop t.end text) (form_positive t.kind (span text t) token.form)) ∙ ap is_blank (sym first) ∙ blank.blank);
  no_comment = token.free_of_comment;
}

-- ---- lists that grow

-- one more token, and the blanks and comments behind it
pub AreTokensIn_push : (text : List ℕ) (ts : List Token) (from at to : ℕ) (t : Token) → AreTokensIn text from at ts → t.start ≡ at → IsTokenAt text t → IsFiller text t.end to → AreTokensIn text from to (ts ++ t ∷ [])
AreTokensIn_push text [] from at to t before starts token behind = (subst (IsFiller text from) (sym starts) before, token, behind)
AreTokensIn_push text (u ∷ ts) from at to t before starts token behind = (before.0, before.1, AreTokensIn_push text ts u.end at to t before.2 starts token behind)

-- ---- one list at most

-- a place where no blank, no comment and no token begins
pub record IsStop (text : List ℕ) (at : ℕ) : Type 0 where
  pub free : IsFree text at
  pub no_token : (t : Token) → t.start ≡ at → IsTokenAt text t → ⊥

pub stop_at_end : (text : List ℕ) → IsStop text (length text)
stop_at_end text = record {
  free = record {
    no_blank = λ blank. omega (arith, blank.within);
    no_comment = λ comment. ⊎_elim
        (λ line. omega (arith, within_from text (length text) 45 line.0 (omega arith)))
        (λ block. omega (arith, within_from text (length text) 47 block.0 (omega arith)))
        comment;
  };
  no_token = λ t starts token. omega (arith, starts, token.ascends, token.within);
}

pub stop_at_bad : (text : List ℕ) (at : ℕ) → FirstBad text at → IsStop text at
stop_at_bad text at bad = record { free = record { no_blank = bad.not_blank; no_comment = bad.free_of_comment }; no_token = bad.no_token }

-- blanks and comments in front of the tokens may be passed
pub passed_filler : (text : List ℕ) (ts : List Token) (from at to : ℕ) → IsFiller text from at → IsFree text at → IsStop text to → AreTokensIn text from to ts → AreTokensIn text at to ts
passed_filler text [] from at to filler free stop tokens =
    subst (IsFiller text at) (fillers_meet text from at to free stop.free filler tokens) (IsFiller_none text at)
passed_filler text (t ∷ ts) from at to filler free stop tokens =
    (subst (IsFiller text at) (fillers_meet text from at t.start free (token_free text t tokens.1) filler tokens.0) (IsFiller_none text at), tokens.1, tokens.2)

-- the first token of a list is the one that begins where it does
pub record IsFirst (text : List ℕ) (t : Token) (to : ℕ) (ts : List Token) : Type 0 where
  pub rest : List Token
  pub split : ts ≡ t ∷ rest
  pub tokens : AreTokensIn text t.end to rest

pub first_token : (text : List ℕ) (ts : List Token) (t : Token) (at to : ℕ) → IsFree text at → IsStop text to → t.start ≡ at → IsTokenAt text t → AreTokensIn text at to ts → IsFirst text t to ts
first_token text [] t at to free stop starts token tokens =
    absurd (stop.no_token t (starts ∙ fillers_meet text at at to free stop.free (IsFiller_none text at) tokens) token)
first_token text (u ∷ ts) t at to free stop starts token tokens =
    let place : at ≡ u.start = fillers_meet text at at u.start free (token_free text u tokens.1) (IsFiller_none text at) tokens.0 in
    let same : u ≡ t = token_one text u t tokens.1 token (sym place ∙ sym starts) in
    record { rest = ts; split = ap (λ k. k ∷ ts) same; tokens = subst (λ k. AreTokensIn text k.end to ts) same tokens.2 }

-- where no token begins the list has ended, at the place itself
pub no_more : (text : List ℕ) (ts : List Token) (at to : ℕ) → IsStop text at → IsStop text to → AreTokensIn text at to ts → (ts ≡ []) × (at ≡ to)
no_more text [] at to here stop tokens = (refl, fillers_meet text at at to here.free stop.free (IsFiller_none text at) tokens)
no_more text (t ∷ ts) at to here stop tokens =
    absurd (here.no_token t (sym (fillers_meet text at at t.start here.free (token_free text t tokens.1) (IsFiller_none text at) tokens.0)) tokens.1)

-- each list of tokens up to a stop goes on from the place behind the tokens that were read
pub record GoesOn (text : List ℕ) (read : List Token) (at to : ℕ) (all : List Token) : Type 0 where
  pub rest : List Token
  pub split : all ≡ read ++ rest
  pub tokens : AreTokensIn text at to rest

abbrev pub AllGoOn : List ℕ → List Token → ℕ → Type 0
AllGoOn text read at = (to : ℕ) (all : List Token) → IsStop text to → AreTokensIn text 0 to all → GoesOn text read at to all

pub go_on_first : (text : List ℕ) (at : ℕ) → IsFiller text 0 at → IsFree text at → AllGoOn text [] at
go_on_first text at filler free to all stop tokens = record { rest = all; split = refl; tokens = passed_filler text all 0 at to filler free stop tokens }

pub go_on_push : (text : List ℕ) (read : List Token) (at next : ℕ) (t : Token) → IsFree text at → t.start ≡ at → IsTokenAt text t → IsFiller text t.end next → IsFree text next → AllGoOn text read at → AllGoOn text (read ++ t ∷ []) next
go_on_push text read at next t free starts token filler free_next go to all stop tokens =
    let before = go to all stop tokens in
    let first = first_token text before.rest t at to free stop starts token before.tokens in
    record {
      rest = first.rest;
      split = before.split ∙ ap (λ l. read ++ l) first.split ∙ sym (append_assoc read (t ∷ []) first.rest);
      tokens = passed_filler text first.rest t.end next to filler free_next stop first.tokens;
    }

-- where no token begins behind those that were read, they are each list up to a stop
pub go_on_end : (text : List ℕ) (read : List Token) (at to : ℕ) (all : List Token) → IsStop text at → IsStop text to → AreTokensIn text 0 to all → AllGoOn text read at → (read ≡ all) × (at ≡ to)
go_on_end text read at to all here stop tokens go =
    let before = go to all stop tokens in
    let ended = no_more text before.rest at to here stop before.tokens in
    (sym (before.split ∙ ap (λ l. read ++ l) ended.0 ∙ append-nil read), ended.1)

-- each token of a list stands in the text
pub IsTokenAt-get : (text : List ℕ) (ts : List Token) (from to i : ℕ) (d : Token) → i < length ts → AreTokensIn text from to ts → IsTokenAt text (get_or ts i d)
IsTokenAt-get text [] from to i d within tokens = absurd (omega arith)
IsTokenAt-get text (t ∷ ts) from to zero d within tokens = tokens.1
IsTokenAt-get text (t ∷ ts) from to (suc i) d within tokens = IsTokenAt-get text ts t.end to i d (omega arith) tokens.2
