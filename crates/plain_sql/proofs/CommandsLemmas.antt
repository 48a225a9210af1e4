-- How tokens are cut into commands.
use Rattle.std.proofs.Common.{◌≡◌, ℕ, ◌≤◌, arith, length, length-append, List, [], ◌∷◌, ◌++◌, codes, refl, sym, subst, ap, ap₂, ◌∙◌, append_assoc}
use Rattle.std.proofs.lemmas.List.{append-nil}
use Rattle.sql_token.specs.declared.token.Token.{Token}
use Rattle.sql_token.specs.declared.token.TokenKind.TheVariants.{Word, Op}
use Rattle.sql_token.specs.declared.keyword.Keyword.{Keyword}
use Rattle.sql_token.specs.declared.keyword.Keyword.TheVariants.{Alter, Table, Add, Column}
use Rattle.sql_token.specs.Names.{folded}
use Rattle.sql_token.specs.Token.{span}
use Rattle.sql_token.specs.Fixed.{IsFixed, IsSign}
use Rattle.plain_sql.specs.declared.script.Command.{Command}
use Rattle.plain_sql.specs.Words.{IsPlainName}
use Rattle.plain_sql.specs.Script.{IsColumnWord, SpellsCommand, AreEnds, IsEnded, SpellsCommands, BeginsCommand, IsAdd, IsBehindColumnWord, IsBeyondEnds, IsBehindEnds}
use Rattle.common_laws.proofs.Each.{all_at, all_append, all_behind, cut_one}

-- the token is a `;`
abbrev IsEnd : List ℕ → Token → Type 0
IsEnd text token = IsSign text (codes ";") token

-- a fixed word is no sign
fixed_not_sign : (text sign : List ℕ) (word : Keyword) (token : Token) → IsFixed text word token → IsSign text sign token → ⊥
fixed_not_sign text sign word token fixed is = let both : Op ≡ Word = sym is.kind ∙ fixed.kind in cc

-- a name is no fixed word
name_not_fixed : (text name : List ℕ) (word : Keyword) (token other : Token) → token ≡ other → IsPlainName text token name → IsFixed text word other → ⊥
name_not_fixed text name word token other same plain fixed = plain.free word (ap (λ t. folded (span text t)) same ∙ fixed.spelled)

-- a word spells one name
name_one : (text m n : List ℕ) (token other : Token) → token ≡ other → IsPlainName text token m → IsPlainName text other n → m ≡ n
name_one text m n token other same is was = is.spelled ∙ ap (span text) same ∙ sym was.spelled

-- what stands behind a command's first word
abbrev tail_of : {text : List ℕ} {piece : List Token} {command : Command} → SpellsCommand text piece command → List Token
tail_of spells = spells.table_word ∷ spells.table ∷ spells.add_word ∷ spells.column_word ++ spells.column ∷ []

-- a command's first word, and what stands before and behind it
at_alter : (text : List ℕ) (piece before others : List Token) (command : Command) (spells : SpellsCommand text piece command)
    → before ++ piece ++ others ≡ before ++ spells.alter_word ∷ (tail_of spells ++ others)
at_alter text piece before others command spells = append_assoc before piece others ∙ ap (λ p. before ++ (p ++ others)) spells.whole

-- a command's first word is no `;`
alter_no_end : (text : List ℕ) (piece : List Token) (command : Command) (spells : SpellsCommand text piece command) → IsEnd text spells.alter_word → ⊥
alter_no_end text piece command spells end = fixed_not_sign text (codes ";") Alter spells.alter_word spells.alters end

-- the end of a command is in one place, and its column has one name
column_one : (text : List ℕ) (v w : List Token) (s t : Token) (c d : List Token) (m n : List ℕ) → IsColumnWord text v → IsColumnWord text w
    → IsPlainName text s m → IsPlainName text t n → (v ++ s ∷ []) ++ c ≡ (w ++ t ∷ []) ++ d → (m ≡ n) × (c ≡ d)
column_one text [] [] s t c d m n fv fw is was e = let same : s ≡ t = cc in (name_one text m n s t same is was, cc)
column_one text [] (y ∷ []) s t c d m n fv fw is was e = let same : s ≡ y = cc in absurd (name_not_fixed text m Column s y same is fw)
column_one text [] (y ∷ z ∷ w) s t c d m n fv fw is was e = absurd fw
column_one text (x ∷ []) [] s t c d m n fv fw is was e = let same : t ≡ x = cc in absurd (name_not_fixed text n Column t x same was fv)
column_one text (x ∷ []) (y ∷ []) s t c d m n fv fw is was e = let same : s ≡ t = cc in (name_one text m n s t same is was, cc)
column_one text (x ∷ []) (y ∷ z ∷ w) s t c d m n fv fw is was e = absurd fw
column_one text (x ∷ z ∷ v) w s t c d m n fv fw is was e = absurd fv

-- a command in front is one, and what stands behind it too
command_one : (text : List ℕ) (piece piece' others others' : List Token) (command command' : Command) (spells : SpellsCommand text piece command)
    (spells' : SpellsCommand text piece' command') → tail_of spells ++ others ≡ tail_of spells' ++ others' → (command ≡ command') × (others ≡ others')
command_one text piece piece' others others' command command' spells spells' e =
    let same : spells.table ≡ spells'.table = cc in
    let behind : (spells.column_word ++ spells.column ∷ []) ++ others ≡ (spells'.column_word ++ spells'.column ∷ []) ++ others' = cc in
    let tables = name_one text command.table command'.table spells.table spells'.table same spells.table_name spells'.table_name in
    let (columns, back) = column_one text spells.column_word spells'.column_word spells.column spells'.column others others' command.column command'.column
    spells.column_fixed spells'.column_fixed spells.column_name spells'.column_name behind in
    let made : List ℕ → List ℕ → Command = λ t k. record { table = t; column = k } in
    (ap₂ made tables columns, back)

-- ends before commands
spells_more : (text : List ℕ) (tokens ends rest : List Token) (commands : List Command) → tokens ≡ ends ++ rest → AreEnds text ends
    → SpellsCommands text rest commands → SpellsCommands text tokens commands
spells_more text tokens ends rest [] cut are spells = subst (AreEnds text) (sym cut) (all_append (IsEnd text) ends rest are spells)
spells_more text tokens ends rest (c ∷ cs) cut are (before, piece, others, whole, been, spells, ended, those) = (
  ends ++ before,
  piece,
  others,
  cut ∙ ap (λ r. ends ++ r) whole ∙ sym (append_assoc ends (before ++ piece) others) ∙ ap (λ r. r ++ others) (sym (append_assoc ends before piece)),
  all_append (IsEnd text) ends before are been,
  spells,
  ended,
  those,
)

-- commands behind ends
spells_behind : (text : List ℕ) (tokens ends rest : List Token) (commands : List Command) → tokens ≡ ends ++ rest → AreEnds text ends → IsBeyondEnds text rest
    → SpellsCommands text tokens commands → SpellsCommands text rest commands
spells_behind text tokens ends rest [] cut are stop spells = all_behind (IsEnd text) ends rest (subst (AreEnds text) cut spells)
spells_behind text tokens ends [] (c ∷ cs) cut are stop (before, piece, others, whole, been, spells, ended, those) =
    let all : AreEnds text (before ++ spells.alter_word ∷ (tail_of spells ++ others)) =
    subst (AreEnds text) (sym (append-nil ends) ∙ sym cut ∙ whole ∙ at_alter text piece before others c spells) are in
    absurd (alter_no_end text piece c spells (all_at (IsEnd text) before spells.alter_word _ all))
spells_behind text tokens ends (t ∷ ts) (c ∷ cs) cut are stop (before, piece, others, whole, been, spells, ended, those) =
    let (front, first, back) = cut_one (IsEnd text) ends before t spells.alter_word ts (tail_of spells ++ others) are been stop (alter_no_end text piece c spells)
    (sym cut ∙ whole ∙ at_alter text piece before others c spells) in
    ([], piece, others, ap₂ (λ z zs. z ∷ zs) first back ∙ sym (at_alter text piece [] others c spells), tt, spells, ended, those)

-- the commands of all tokens are these and then those of the rest
pub record GoesOn (text : List ℕ) (tokens : List Token) (commands : List Command) (rest : List Token) : Type 0 where
  pub found : (more : List Command) → SpellsCommands text rest more → SpellsCommands text tokens (commands ++ more)
  pub only : (all : List Command) → SpellsCommands text tokens all → (more : List Command) × (all ≡ commands ++ more) × SpellsCommands text rest more
  pub stop : IsBeyondEnds text rest

-- before the first command
pub goes_on_at_first : (text : List ℕ) (tokens rest : List Token) → IsBehindEnds text tokens rest → GoesOn text tokens [] rest
goes_on_at_first text tokens rest behind = record {
  found = λ more spells. spells_more text tokens behind.ends rest more behind.whole behind.are_ends spells;
  only = λ all spells. (all, refl, spells_behind text tokens behind.ends rest all behind.whole behind.are_ends behind.stop spells);
  stop = behind.stop;
}

-- the commands behind a command in front
commands_behind : (text : List ℕ) (rest : List Token) (table column : List ℕ) (others : List Token) (all : List Command) → BeginsCommand text rest table column others
    → SpellsCommands text rest all
    → (more : List Command) × (all ≡ (let c : Command = record { table = table; column = column } in c) ∷ more) × IsEnded text others × SpellsCommands text others more
commands_behind text rest table column others [] begins ends =
    let all : AreEnds text ([] ++ begins.spelled.alter_word ∷ (tail_of begins.spelled ++ others)) =
    subst (AreEnds text) (begins.whole ∙ at_alter text begins.piece [] others _ begins.spelled) ends in
    absurd (alter_no_end text begins.piece _ begins.spelled (all_at (IsEnd text) [] begins.spelled.alter_word (tail_of begins.spelled ++ others) all))
commands_behind text rest table column others (c ∷ cs) begins (before, piece, others', whole, been, spells, ended, those) =
    let (front, first, back) = cut_one (IsEnd text) before [] spells.alter_word begins.spelled.alter_word (tail_of spells ++ others') (tail_of begins.spelled ++ others)
    been tt (alter_no_end text piece c spells) (alter_no_end text begins.piece _ begins.spelled)
    (sym (at_alter text piece before others' c spells) ∙ sym whole ∙ begins.whole ∙ at_alter text begins.piece [] others _ begins.spelled) in
    let (same, rests) = command_one text piece begins.piece others' others c _ spells begins.spelled back in
    let P : List Token → Type 0 = λ t. SpellsCommands text t cs in
    (cs, ap (λ d. d ∷ cs) same, subst (IsEnded text) rests ended, subst P rests those)

-- one command further
pub goes_on : (text : List ℕ) (tokens rest : List Token) (commands : List Command) (table column : List ℕ) (others behind : List Token) → GoesOn text tokens commands rest
    → BeginsCommand text rest table column others → IsEnded text others → IsBehindEnds text others behind
    → GoesOn text tokens (commands ++ record { table = table; column = column } ∷ []) behind
goes_on text tokens rest commands table column others behind goes begins ended beyond =
    let command : Command = record { table = table; column = column } in
    record {
      found = λ more spells. subst (SpellsCommands text tokens) (sym (append_assoc commands (command ∷ []) more))
          (goes.found (command ∷ more) (
            [],
            begins.piece,
            others,
            begins.whole,
            tt,
            begins.spelled,
            ended,
            spells_more text others beyond.ends behind more beyond.whole beyond.are_ends spells,
          ));
      only = λ all spells.
          let (more, is, those) = goes.only all spells in
          let (last, was, end, these) = commands_behind text rest table column others more begins those in (
            last,
            is ∙ ap (λ m. commands ++ m) was ∙ sym (append_assoc commands (command ∷ []) last),
            spells_behind text others beyond.ends behind last beyond.whole beyond.are_ends beyond.stop these,
          );
      stop = beyond.stop;
    }

-- at the end the commands are all
pub goes_to_end : (text : List ℕ) (tokens rest : List Token) (commands : List Command) → GoesOn text tokens commands rest → rest ≡ [] → SpellsCommands text tokens commands
goes_to_end text tokens rest commands goes none =
    subst (SpellsCommands text tokens) (append-nil commands) (goes.found [] (subst (AreEnds text) (sym none) tt))

-- and no other commands
pub goes_to_end_only : (text : List ℕ) (tokens rest : List Token) (commands all : List Command) → GoesOn text tokens commands rest → rest ≡ []
    → SpellsCommands text tokens all → commands ≡ all
goes_to_end_only text tokens rest commands all goes none spells =
    let (more, is, those) = goes.only all spells in
    let P : List Token → Type 0 = λ t. SpellsCommands text t more in
    sym (is ∙ ap (λ m. commands ++ m) (nothing more (subst P none those)) ∙ append-nil commands)
  where
    nothing : (more : List Command) → SpellsCommands text [] more → more ≡ []
    nothing [] those = refl
    nothing (c ∷ cs) (before, piece, others, whole, been, spells, ended, those) =
        let same : length {A = Token} [] ≡ length (before ++ spells.alter_word ∷ (tail_of spells ++ others)) =
        ap length (whole ∙ at_alter text piece before others c spells) in
        absurd (omega (arith, length-append before (spells.alter_word ∷ (tail_of spells ++ others))))

-- where no command is in front of what is left, there are no commands
pub goes_to_no_command : (text : List ℕ) (tokens rest : List Token) (commands all : List Command) → GoesOn text tokens commands rest → 1 ≤ length rest
    → ((piece others : List Token) (command : Command) → rest ≡ piece ++ others → SpellsCommand text piece command → ⊥) → SpellsCommands text tokens all → ⊥
goes_to_no_command text tokens rest commands all goes some none spells =
    let (more, is, those) = goes.only all spells in by rest more some goes.stop none those
  where
    by : (rest : List Token) (more : List Command) → 1 ≤ length rest → IsBeyondEnds text rest
        → ((piece others : List Token) (command : Command) → rest ≡ piece ++ others → SpellsCommand text piece command → ⊥) → SpellsCommands text rest more → ⊥
    by [] more some stop none those = absurd (omega arith)
    by (t ∷ ts) [] some stop none those = stop those.0
    by (t ∷ ts) (c ∷ cs) some stop none (before, piece, others, whole, been, spells, ended, those) =
        let (front, first, back) = cut_one (IsEnd text) [] before t spells.alter_word ts (tail_of spells ++ others) tt been stop (alter_no_end text piece c spells)
        (whole ∙ at_alter text piece before others c spells) in
        none piece others c (ap₂ (λ z zs. z ∷ zs) first back ∙ sym (at_alter text piece [] others c spells)) spells

-- where a command does not end, there are no commands
pub goes_to_no_end : (text : List ℕ) (tokens rest : List Token) (commands : List Command) (table column : List ℕ) (others : List Token) (all : List Command)
    → GoesOn text tokens commands rest → BeginsCommand text rest table column others → (IsEnded text others → ⊥) → SpellsCommands text tokens all → ⊥
goes_to_no_end text tokens rest commands table column others all goes begins open_end spells =
    let (more, is, those) = goes.only all spells in
    let (last, was, end, these) = commands_behind text rest table column others more begins those in
    open_end end

-- one end more is passed over
pub ends_further : (text : List ℕ) (tokens rest ends : List Token) (token : Token) (others : List Token) → tokens ≡ ends ++ rest → rest ≡ token ∷ others
    → AreEnds text ends → IsSign text (codes ";") token → (more : List Token) × (tokens ≡ more ++ others) × AreEnds text more
ends_further text tokens rest ends token others whole front are end = (
  ends ++ token ∷ [],
  whole ∙ ap (λ r. ends ++ r) front ∙ sym (append_assoc ends (token ∷ []) others),
  all_append (IsEnd text) ends (token ∷ []) are (end, tt),
)

-- behind the word COLUMN
pub behind_column : (text : List ℕ) (tokens behind : List Token) (token : Token) → tokens ≡ token ∷ behind → IsFixed text Column token → IsBehindColumnWord text tokens behind
behind_column text tokens behind token front fixed = record { word = token ∷ []; whole = front; fixed = fixed }

-- and nothing else
pub behind_column_only : (text : List ℕ) (tokens behind : List Token) (token : Token) (word others : List Token) (column : Token) (name : List ℕ) → tokens ≡ token ∷ behind
    → IsFixed text Column token → tokens ≡ word ++ column ∷ others → IsColumnWord text word → IsPlainName text column name → behind ≡ column ∷ others
behind_column_only text tokens behind token [] others column name front fixed cut is named =
    let both : token ∷ behind ≡ column ∷ others = sym front ∙ cut in
    let same : column ≡ token = cc in
    absurd (name_not_fixed text name Column column token same named fixed)
behind_column_only text tokens behind token (w ∷ []) others column name front fixed cut is named =
    let both : token ∷ behind ≡ w ∷ column ∷ others = sym front ∙ cut in cc
behind_column_only text tokens behind token (w ∷ v ∷ ws) others column name front fixed cut is named = absurd is

-- what a command in front is made of
pub record IsMadeOfCommand (text : List ℕ) (alter_word table_word table add_word : Token) (behind others : List Token) (command : Command) : Type 0 where
  pub add : IsAdd text alter_word table_word add_word
  pub table_name : IsPlainName text table command.table
  pub word : List Token
  pub column : Token
  pub whole : behind ≡ word ++ column ∷ others
  pub column_fixed : IsColumnWord text word
  pub column_name : IsPlainName text column command.column

-- the parts, as they are read out of the tokens
pub made_of_command : (text : List ℕ) (tokens : List Token) (a b t d : Token) (behind piece others : List Token) (command : Command) → tokens ≡ a ∷ b ∷ t ∷ d ∷ behind
    → tokens ≡ piece ++ others → SpellsCommand text piece command → IsMadeOfCommand text a b t d behind others command
made_of_command text tokens a b t d behind piece others command front cut spells =
    let same : spells.alter_word ∷ (tail_of spells ++ others) ≡ a ∷ b ∷ t ∷ d ∷ behind = sym (at_alter text piece [] others command spells) ∙ sym cut ∙ front in
    let alter_is : spells.alter_word ≡ a = cc in
    let table_is : spells.table_word ≡ b = cc in
    let name_is : spells.table ≡ t = cc in
    let add_is : spells.add_word ≡ d = cc in
    let back : (spells.column_word ++ spells.column ∷ []) ++ others ≡ behind = cc in
    let P : Token → Type 0 = λ w. IsPlainName text w command.table in
    record {
      add = record {
        alters = subst (IsFixed text Alter) alter_is spells.alters;
        table_fixed = subst (IsFixed text Table) table_is spells.table_fixed;
        adds = subst (IsFixed text Add) add_is spells.adds;
      };
      table_name = subst P name_is spells.table_name;
      word = spells.column_word;
      column = spells.column;
      whole = sym back ∙ append_assoc spells.column_word (spells.column ∷ []) others;
      column_fixed = spells.column_fixed;
      column_name = spells.column_name;
    }

-- a command of these parts is in front
pub begins_command : (text : List ℕ) (tokens : List Token) (a b t d : Token) (behind rest others : List Token) (column : Token) (table name : List ℕ)
    → tokens ≡ a ∷ b ∷ t ∷ d ∷ behind → IsAdd text a b d → IsPlainName text t table → IsBehindColumnWord text behind rest → rest ≡ column ∷ others
    → IsPlainName text column name → BeginsCommand text tokens table name others
begins_command text tokens a b t d behind rest others column table name front add table_name word cut column_name = record {
  piece = a ∷ b ∷ t ∷ d ∷ word.word ++ column ∷ [];
  whole = front
      ∙ ap (λ r. a ∷ b ∷ t ∷ d ∷ r) (word.whole ∙ ap (λ r. word.word ++ r) cut ∙ sym (append_assoc word.word (column ∷ []) others));
  spelled = record {
    alter_word = a;
    table_word = b;
    table = t;
    add_word = d;
    column_word = word.word;
    column = column;
    whole = refl;
    alters = add.alters;
    table_fixed = add.table_fixed;
    table_name = table_name;
    adds = add.adds;
    column_fixed = word.fixed;
    column_name = column_name;
  };
}

-- the first of what stands behind the word COLUMN
pub same_column : (rest next others : List Token) (first column : Token) → rest ≡ first ∷ next → rest ≡ column ∷ others → first ≡ column
same_column rest next others first column front cut = let both : first ∷ next ≡ column ∷ others = sym front ∙ cut in cc
