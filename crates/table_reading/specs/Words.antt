-- What is read as a word that is fixed only where a rule names it.
use Rattle.std.specs.Prelude.{Bool, List, None, Some, [], codes, false, if◌then◌else◌, true, ℕ, ◌&&◌, ◌∷◌}
use Rattle.std.specs.Str.{str_eq_ignore_ascii_case}
use Rattle.sql_token.specs.Token.{span}
use Rattle.sql_token.specs.declared.token.Token.{Token}
use Rattle.sql_token.specs.declared.token.TokenKind.{TokenKind}
use Rattle.sql_reader.specs.Looks.{only}
use Rattle.sql_reader.specs.Reading.{Read, Reading}
use Rattle.sql_reader.specs.declared.sort.Sort.{Sort}
use Rattle.sql_reader.specs.declared.sort.Sort.TheVariants.{Plain}
use Rattle.sql_token.specs.declared.token.TokenKind.TheVariants as Kind

-- the kind of words
abbrev pub is_word_kind : TokenKind → Bool
is_word_kind Kind.Word = true
is_word_kind _ = false

-- a Word that spells these letters, in either case
abbrev pub is_spelled : List ℕ → List ℕ → Token → Bool
is_spelled text letters t = is_word_kind t.kind && str_eq_ignore_ascii_case (span text t) letters

-- the next token, if it is a Word that spells these letters
abbrev pub read_spelled : List ℕ → List ℕ → Read Token
read_spelled text letters [] = None
read_spelled text letters (t ∷ ts) = if is_spelled text letters t then Some (t, ts) else None

-- a Word that spells these letters, which are those of no fixed word
abbrev pub spelled : {sort : Token → Sort} → List ℕ → List ℕ → Reading sort Token
spelled text letters =
    record {
      starts = (only Plain ∷ []) ∷ [];
      goes_on = [];
      nullable = false;
      guarded = true;
      read = read_spelled text letters;
    }

-- the words that are fixed only at their places
abbrev pub stored : List ℕ
stored = codes "stored"

abbrev pub rowid : List ℕ
rowid = codes "rowid"

abbrev pub strict : List ℕ
strict = codes "strict"
