-- The table of keywords: each entry has its keyword's spelling, and each keyword has an entry.
use Rattle.std.proofs.Common.{◌≡◌, ℕ, Bool, List, [], ◌∷◌, ⊎_elim, Option, Some, None, nat_eq, refl, sym, ap, ◌∙◌}
use Rattle.std.specs.Prelude.{IfSome}
use Rattle.std.proofs.lemmas.Bool.{cond-true, cond-false, cases_Bool, false_from_ne_true}
use Rattle.std.specs.Cmp.Lexicographic.{pointwise, bytes_decides}
use Rattle.sql_token.specs.declared.keyword.Keyword.{Keyword}
use Rattle.sql_token.specs.declared.keyword.Keyword.TheVariants.{Abort, Action, Add, After, All, Alter, Always, Analyze, And, As, Asc, Attach, AutoIncrement, Before, Begin, Between, By, Cascade, Case, Cast, Check, Collate, Column, Commit, Conflict, Constraint, Create, Cross, Current, CurrentDate, CurrentTime, CurrentTimestamp, Database, Default, Deferrable, Deferred, Delete, Desc, Detach, Distinct, Do, Drop, Each, Else, End, Escape, Except, Exclude, Exclusive, Exists, Explain, Fail, Filter, First, Following, For, Foreign, From, Full, Generated, Glob, Group, Groups, Having, If, Ignore, Immediate, In, Index, Indexed, Initially, Inner, Insert, Instead, Intersect, Into, Is, IsNull, Join, Key, Last, Left, Like, Limit, Match, Materialized, Natural, No, Not, Nothing, NotNull, Null, Nulls, Of, Offset, On, Or, Order, Others, Outer, Over, Partition, Plan, Pragma, Preceding, Primary, Query, Raise, Range, Rebuild, Recursive, References, Regexp, Reindex, Release, Rename, Replace, Restrict, Returning, Right, Rollback, Row, Rows, Savepoint, Select, Set, Table, Temp, Temporary, Then, Ties, To, Transaction, Trigger, Unbounded, Union, Unique, Update, Using, Vacuum, Values, View, Virtual, When, Where, Window, With, Without}
use Rattle.sql_token.specs.declared.keyword.TheConstants.{KEYWORDS}
use Rattle.sql_token.specs.Keyword.{spelling}
use Rattle.sql_token.specs.Names.{folded}
use Rattle.sql_token.specs.Scan.{first_spelled}

-- the keyword is spelled as the word
abbrev spells : List ℕ → Keyword → Bool
spells word k = pointwise nat_eq (folded (spelling k)) word

-- a keyword with the word's spelling is the one
pub first_spelled-here : (word : List ℕ) (k : Keyword) (ks : List Keyword) → folded (spelling k) ≡ word → first_spelled word (k ∷ ks) ≡ Some k
first_spelled-here word k ks same = cond-true (spells word k) (Some k) (first_spelled word ks) ((bytes_decides (folded (spelling k)) word).1 same)

-- a keyword with another spelling is passed over
pub first_spelled-further : (word : List ℕ) (k : Keyword) (ks : List Keyword) → (folded (spelling k) ≡ word → ⊥) → first_spelled word (k ∷ ks) ≡ first_spelled word ks
first_spelled-further word k ks other =
    cond-false (spells word k) (Some k) (first_spelled word ks) (false_from_ne_true (spells word k) (λ e. other ((bytes_decides (folded (spelling k)) word).0 e)))

-- what is found has the word's spelling
found_spells : (word : List ℕ) (k : Keyword) (ks : List Keyword) → first_spelled word ks ≡ Some k → folded (spelling k) ≡ word
found_spells word k [] found = absurd (cc)
found_spells word k (l ∷ ks) found =
    ⊎_elim
    (λ here.
    let is : l ≡ k = cc (cond-true (spells word l) (Some l) (first_spelled word ks) here) in
    ap (λ m. folded (spelling m)) (sym is) ∙ (bytes_decides (folded (spelling l)) word).0 here)
    (λ other. found_spells word k ks (sym (cond-false (spells word l) (Some l) (first_spelled word ks) other) ∙ found))
    (cases_Bool (spells word l))

-- the table has each keyword
pub table_whole : (k : Keyword) → first_spelled (spelling k) KEYWORDS ≡ Some k
table_whole Abort = refl
table_whole Action = refl
table_whole Add = refl
table_whole After = refl
table_whole All = refl
table_whole Alter = refl
table_whole Always = refl
table_whole Analyze = refl
table_whole And = refl
table_whole As = refl
table_whole Asc = refl
table_whole Attach = refl
table_whole AutoIncrement = refl
table_whole Before = refl
table_whole Begin = refl
table_whole Between = refl
table_whole By = refl
table_whole Cascade = refl
table_whole Case = refl
table_whole Cast = refl
table_whole Check = refl
table_whole Collate = refl
table_whole Column = refl
table_whole Commit = refl
table_whole Conflict = refl
table_whole Constraint = refl
table_whole Create = refl
table_whole Cross = refl
table_whole Current = refl
table_whole CurrentDate = refl
table_whole CurrentTime = refl
table_whole CurrentTimestamp = refl
table_whole Database = refl
table_whole Default = refl
table_whole Deferrable = refl
table_whole Deferred = refl
table_whole Delete = refl
table_whole Desc = refl
table_whole Detach = refl
table_whole Distinct = refl
table_whole Do = refl
table_whole Drop = refl
table_whole Each = refl
table_whole Else = refl
table_whole End = refl
table_whole Escape = refl
table_whole Except = refl
table_whole Exclude = refl
table_whole Exclusive = refl
table_whole Exists = refl
table_whole Explain = refl
table_whole Fail = refl
table_whole Filter = refl
table_whole First = refl
table_whole Following = refl
table_whole For = refl
table_whole Foreign = refl
table_whole From = refl
table_whole Full = refl
table_whole Generated = refl
table_whole Glob = refl
table_whole Group = refl
table_whole Groups = refl
table_whole Having = refl
table_whole If = refl
table_whole Ignore = refl
table_whole Immediate = refl
table_whole In = refl
table_whole Index = refl
table_whole Indexed = refl
table_whole Initially = refl
table_whole Inner = refl
table_whole Insert = refl
table_whole Instead = refl
table_whole Intersect = refl
table_whole Into = refl
table_whole Is = refl
table_whole IsNull = refl
table_whole Join = refl
table_whole Key = refl
table_whole Last = refl
table_whole Left = refl
table_whole Like = refl
table_whole Limit = refl
table_whole Match = refl
table_whole Materialized = refl
table_whole Natural = refl
table_whole No = refl
table_whole Not = refl
table_whole Nothing = refl
table_whole NotNull = refl
table_whole Null = refl
table_whole Nulls = refl
table_whole Of = refl
table_whole Offset = refl
table_whole On = refl
table_whole Or = refl
table_whole Order = refl
table_whole Others = refl
table_whole Outer = refl
table_whole Over = refl
table_whole Partition = refl
table_whole Plan = refl
table_whole Pragma = refl
table_whole Preceding = refl
table_whole Primary = refl
table_whole Query = refl
table_whole Raise = refl
table_whole Range = refl
table_whole Rebuild = refl
table_whole Recursive = refl
table_whole References = refl
table_whole Regexp = refl
table_whole Reindex = refl
table_whole Release = refl
table_whole Rename = refl
table_whole Replace = refl
table_whole Restrict = refl
table_whole Returning = refl
table_whole Right = refl
table_whole Rollback = refl
table_whole Row = refl
table_whole Rows = refl
table_whole Savepoint = refl
table_whole Select = refl
table_whole Set = refl
table_whole Table = refl
table_whole Temp = refl
table_whole Temporary = refl
table_whole Then = refl
table_whole Ties = refl
table_whole To = refl
table_whole Transaction = refl
table_whole Trigger = refl
table_whole Unbounded = refl
table_whole Union = refl
table_whole Unique = refl
table_whole Update = refl
table_whole Using = refl
table_whole Vacuum = refl
table_whole Values = refl
table_whole View = refl
table_whole Virtual = refl
table_whole When = refl
table_whole Where = refl
table_whole Window = refl
table_whole With = refl
table_whole Without = refl

-- a spelling has no capitals
pub folded-spelling : (k : Keyword) → folded (spelling k) ≡ spelling k
folded-spelling k = found_spells (spelling k) k KEYWORDS (table_whole k)

-- two keywords have two spellings
pub spelling_apart : (k l : Keyword) → spelling k ≡ spelling l → k ≡ l
spelling_apart k l same =
    let joined : Some k ≡ Some l = sym (table_whole k) ∙ ap (λ w. first_spelled w KEYWORDS) same ∙ table_whole l in
    cc

-- what a look-up in the table says, either way
pub found_in_table : (found : Option Keyword) (word : List ℕ) → found ≡ first_spelled word KEYWORDS → IfSome found (λ k. word ≡ spelling k)
found_in_table None word is = tt
found_in_table (Some k) word is = sym (found_spells word k KEYWORDS (sym is)) ∙ folded-spelling k

pub only_in_table : (found : Option Keyword) (word : List ℕ) (k : Keyword) → found ≡ first_spelled word KEYWORDS → word ≡ spelling k → found ≡ Some k
only_in_table found word k is same = is ∙ ap (λ w. first_spelled w KEYWORDS) same ∙ table_whole k
