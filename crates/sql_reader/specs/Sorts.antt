-- The sort of a token: which fixed word it is, which sign, or what kind of name, number or text.
use Rattle.std.specs.Prelude.{ℕ, ◌+◌, Bool, if◌then◌else◌, ◌==◌, List, [], ◌∷◌, ◌++◌, Option, Some, None, map, find, nat_eq}
use Rattle.std.specs.Cmp.Lexicographic.{pointwise}
use Rattle.sql_token.specs.declared.token.Token.{Token}
use Rattle.sql_token.specs.declared.token.TokenKind.{TokenKind}
use Rattle.sql_token.specs.declared.token.TokenKind.TheVariants as Kind
use Rattle.sql_token.specs.declared.keyword.Keyword.{Keyword}
use Rattle.sql_token.specs.declared.keyword.Keyword.TheVariants as K
use Rattle.sql_token.specs.Keyword.{spelling}
use Rattle.sql_token.specs.Names.{folded}
use Rattle.sql_token.specs.Token.{span}
use Rattle.sql_reader.specs.declared.sort.Mark.{Mark}
use Rattle.sql_reader.specs.declared.sort.Mark.TheVariants.{Opening, Closing, Comma, Semicolon, Dot, Plus, Minus, Star, Tilde, Equal, Operator}
use Rattle.sql_reader.specs.declared.sort.Sort.{Sort}
use Rattle.sql_reader.specs.declared.sort.Sort.TheVariants.{Fixed, Sign, Plain, Quoted, Str, Blob, Int, Hex, Float, End}

-- the fixed words, in the order of their numbers
abbrev pub fixed_words : List Keyword
fixed_words =
    K.Abort ∷ K.Action ∷ K.Add ∷ K.After ∷ K.All ∷ K.Alter ∷ K.Always ∷ K.Analyze ∷ K.And ∷ K.As ∷ K.Asc ∷
    K.Attach ∷ K.AutoIncrement ∷ K.Before ∷ K.Begin ∷ K.Between ∷ K.By ∷ K.Cascade ∷ K.Case ∷ K.Cast ∷
    K.Check ∷ K.Collate ∷ K.Column ∷ K.Commit ∷ K.Conflict ∷ K.Constraint ∷ K.Create ∷ K.Cross ∷ K.Current ∷
    K.CurrentDate ∷ K.CurrentTime ∷ K.CurrentTimestamp ∷ K.Database ∷ K.Default ∷ K.Deferrable ∷ K.Deferred ∷
    K.Delete ∷ K.Desc ∷ K.Detach ∷ K.Distinct ∷ K.Do ∷ K.Drop ∷ K.Each ∷ K.Else ∷ K.End ∷ K.Escape ∷ K.Except ∷
    K.Exclude ∷ K.Exclusive ∷ K.Exists ∷ K.Explain ∷ K.Fail ∷ K.Filter ∷ K.First ∷ K.Following ∷ K.For ∷
    K.Foreign ∷ K.From ∷ K.Full ∷ K.Generated ∷ K.Glob ∷ K.Group ∷ K.Groups ∷ K.Having ∷ K.If ∷ K.Ignore ∷
    K.Immediate ∷ K.In ∷ K.Index ∷ K.Indexed ∷ K.Initially ∷ K.Inner ∷ K.Insert ∷ K.Instead ∷ K.Intersect ∷
    K.Into ∷ K.Is ∷ K.IsNull ∷ K.Join ∷ K.Key ∷ K.Last ∷ K.Left ∷ K.Like ∷ K.Limit ∷ K.Match ∷ K.Materialized ∷
    K.Natural ∷ K.No ∷ K.Not ∷ K.Nothing ∷ K.NotNull ∷ K.Null ∷ K.Nulls ∷ K.Of ∷ K.Offset ∷ K.On ∷ K.Or ∷
    K.Order ∷ K.Others ∷ K.Outer ∷ K.Over ∷ K.Partition ∷ K.Plan ∷ K.Pragma ∷ K.Preceding ∷ K.Primary ∷
    K.Query ∷ K.Raise ∷ K.Range ∷ K.Rebuild ∷ K.Recursive ∷ K.References ∷ K.Regexp ∷ K.Reindex ∷ K.Release ∷
    K.Rename ∷ K.Replace ∷ K.Restrict ∷ K.Returning ∷ K.Right ∷ K.Rollback ∷ K.Row ∷ K.Rows ∷ K.Savepoint ∷
    K.Select ∷ K.Set ∷ K.Table ∷ K.Temp ∷ K.Temporary ∷ K.Then ∷ K.Ties ∷ K.To ∷ K.Transaction ∷ K.Trigger ∷
    K.Unbounded ∷ K.Union ∷ K.Unique ∷ K.Update ∷ K.Using ∷ K.Vacuum ∷ K.Values ∷ K.View ∷ K.Virtual ∷ K.When ∷
    K.Where ∷ K.Window ∷ K.With ∷ K.Without ∷ []

-- the signs, in the order of their numbers
abbrev pub marks : List Mark
marks = Opening ∷ Closing ∷ Comma ∷ Semicolon ∷ Dot ∷ Plus ∷ Minus ∷ Star ∷ Tilde ∷ Equal ∷ Operator ∷ []

-- the sorts, in the order of their numbers
abbrev pub sorts : List Sort
sorts = map Fixed fixed_words ++ (map Sign marks ++ (Plain ∷ Quoted ∷ Str ∷ Blob ∷ Int ∷ Hex ∷ Float ∷ End ∷ []))

-- the number of a fixed word
abbrev pub number_of_word : Keyword → ℕ
number_of_word K.Abort = 0
number_of_word K.Action = 1
number_of_word K.Add = 2
number_of_word K.After = 3
number_of_word K.All = 4
number_of_word K.Alter = 5
number_of_word K.Always = 6
number_of_word K.Analyze = 7
number_of_word K.And = 8
number_of_word K.As = 9
number_of_word K.Asc = 10
number_of_word K.Attach = 11
number_of_word K.AutoIncrement = 12
number_of_word K.Before = 13
number_of_word K.Begin = 14
number_of_word K.Between = 15
number_of_word K.By = 16
number_of_word K.Cascade = 17
number_of_word K.Case = 18
number_of_word K.Cast = 19
number_of_word K.Check = 20
number_of_word K.Collate = 21
number_of_word K.Column = 22
number_of_word K.Commit = 23
number_of_word K.Conflict = 24
number_of_word K.Constraint = 25
number_of_word K.Create = 26
number_of_word K.Cross = 27
number_of_word K.Current = 28
number_of_word K.CurrentDate = 29
number_of_word K.CurrentTime = 30
number_of_word K.CurrentTimestamp = 31
number_of_word K.Database = 32
number_of_word K.Default = 33
number_of_word K.Deferrable = 34
number_of_word K.Deferred = 35
number_of_word K.Delete = 36
number_of_word K.Desc = 37
number_of_word K.Detach = 38
number_of_word K.Distinct = 39
number_of_word K.Do = 40
number_of_word K.Drop = 41
number_of_word K.Each = 42
number_of_word K.Else = 43
number_of_word K.End = 44
number_of_word K.Escape = 45
number_of_word K.Except = 46
number_of_word K.Exclude = 47
number_of_word K.Exclusive = 48
number_of_word K.Exists = 49
number_of_word K.Explain = 50
number_of_word K.Fail = 51
number_of_word K.Filter = 52
number_of_word K.First = 53
number_of_word K.Following = 54
number_of_word K.For = 55
number_of_word K.Foreign = 56
number_of_word K.From = 57
number_of_word K.Full = 58
number_of_word K.Generated = 59
number_of_word K.Glob = 60
number_of_word K.Group = 61
number_of_word K.Groups = 62
number_of_word K.Having = 63
number_of_word K.If = 64
number_of_word K.Ignore = 65
number_of_word K.Immediate = 66
number_of_word K.In = 67
number_of_word K.Index = 68
number_of_word K.Indexed = 69
number_of_word K.Initially = 70
number_of_word K.Inner = 71
number_of_word K.Insert = 72
number_of_word K.Instead = 73
number_of_word K.Intersect = 74
number_of_word K.Into = 75
number_of_word K.Is = 76
number_of_word K.IsNull = 77
number_of_word K.Join = 78
number_of_word K.Key = 79
number_of_word K.Last = 80
number_of_word K.Left = 81
number_of_word K.Like = 82
number_of_word K.Limit = 83
number_of_word K.Match = 84
number_of_word K.Materialized = 85
number_of_word K.Natural = 86
number_of_word K.No = 87
number_of_word K.Not = 88
number_of_word K.Nothing = 89
number_of_word K.NotNull = 90
number_of_word K.Null = 91
number_of_word K.Nulls = 92
number_of_word K.Of = 93
number_of_word K.Offset = 94
number_of_word K.On = 95
number_of_word K.Or = 96
number_of_word K.Order = 97
number_of_word K.Others = 98
number_of_word K.Outer = 99
number_of_word K.Over = 100
number_of_word K.Partition = 101
number_of_word K.Plan = 102
number_of_word K.Pragma = 103
number_of_word K.Preceding = 104
number_of_word K.Primary = 105
number_of_word K.Query = 106
number_of_word K.Raise = 107
number_of_word K.Range = 108
number_of_word K.Rebuild = 109
number_of_word K.Recursive = 110
number_of_word K.References = 111
number_of_word K.Regexp = 112
number_of_word K.Reindex = 113
number_of_word K.Release = 114
number_of_word K.Rename = 115
number_of_word K.Replace = 116
number_of_word K.Restrict = 117
number_of_word K.Returning = 118
number_of_word K.Right = 119
number_of_word K.Rollback = 120
number_of_word K.Row = 121
number_of_word K.Rows = 122
number_of_word K.Savepoint = 123
number_of_word K.Select = 124
number_of_word K.Set = 125
number_of_word K.Table = 126
number_of_word K.Temp = 127
number_of_word K.Temporary = 128
number_of_word K.Then = 129
number_of_word K.Ties = 130
number_of_word K.To = 131
number_of_word K.Transaction = 132
number_of_word K.Trigger = 133
number_of_word K.Unbounded = 134
number_of_word K.Union = 135
number_of_word K.Unique = 136
number_of_word K.Update = 137
number_of_word K.Using = 138
number_of_word K.Vacuum = 139
number_of_word K.Values = 140
number_of_word K.View = 141
number_of_word K.Virtual = 142
number_of_word K.When = 143
number_of_word K.Where = 144
number_of_word K.Window = 145
number_of_word K.With = 146
number_of_word K.Without = 147

-- the number of a sign
abbrev pub number_of_mark : Mark → ℕ
number_of_mark Opening = 0
number_of_mark Closing = 1
number_of_mark Comma = 2
number_of_mark Semicolon = 3
number_of_mark Dot = 4
number_of_mark Plus = 5
number_of_mark Minus = 6
number_of_mark Star = 7
number_of_mark Tilde = 8
number_of_mark Equal = 9
number_of_mark Operator = 10

-- the number of a sort: two sorts have two numbers
abbrev pub number_of : Sort → ℕ
number_of (Fixed word) = number_of_word word
number_of (Sign mark) = 148 + number_of_mark mark
number_of Plain = 159
number_of Quoted = 160
number_of Str = 161
number_of Blob = 162
number_of Int = 163
number_of Hex = 164
number_of Float = 165
number_of End = 166

-- the two sorts are one
abbrev pub same_sort : Sort → Sort → Bool
same_sort s t = nat_eq (number_of s) (number_of t)

-- the sign of one byte
abbrev pub mark_of_byte : ℕ → Mark
mark_of_byte b =
    if b == 40 then Opening
    else (if b == 41 then Closing
    else (if b == 44 then Comma
    else (if b == 59 then Semicolon
    else (if b == 46 then Dot
    else (if b == 43 then Plus
    else (if b == 45 then Minus
    else (if b == 42 then Star
    else (if b == 126 then Tilde
    else (if b == 61 then Equal
    else Operator)))))))))

-- the sign that the bytes are
abbrev pub mark_of : List ℕ → Mark
mark_of (b ∷ []) = mark_of_byte b
mark_of _ = Operator

-- the fixed word that is spelled so
unfoldable pub word_of : List ℕ → Option Keyword
word_of letters = find (λ word. pointwise nat_eq (spelling word) letters) fixed_words

-- the sort of a Word
abbrev pub sort_of_word : Option Keyword → Sort
sort_of_word (Some word) = Fixed word
sort_of_word None = Plain

-- the sort of a token of the kind with these bytes
abbrev pub sort_in : TokenKind → List ℕ → Sort
sort_in Kind.Word bytes = sort_of_word (word_of (folded bytes))
sort_in Kind.Quoted bytes = Quoted
sort_in Kind.Str bytes = Str
sort_in Kind.Blob bytes = Blob
sort_in Kind.Int bytes = Int
sort_in Kind.Hex bytes = Hex
sort_in Kind.Float bytes = Float
sort_in Kind.Op bytes = Sign (mark_of bytes)

-- the sort of a token of the text
unfoldable pub sort_of : List ℕ → Token → Sort
sort_of text t = sort_in t.kind (span text t)
