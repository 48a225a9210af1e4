-- Each sort stands in the list of sorts at its number, so a test of the whole list is a test of each sort.
use Rattle.std.proofs.Common.{◌≡◌, ℕ, zero, suc, List, [], ◌∷◌, ◌++◌, Some, map, refl, ap}
use Rattle.std.proofs.lemmas.Option.{same_Some}
use Rattle.std.specs.List.{slice_get}
use Rattle.sql_token.specs.declared.keyword.Keyword.{Keyword}
use Rattle.sql_token.specs.declared.keyword.Keyword.TheVariants as K
use Rattle.sql_reader.specs.declared.sort.Mark.TheVariants as Mark'
use Rattle.sql_reader.specs.declared.sort.Sort.{Sort}
use Rattle.sql_reader.specs.declared.sort.Sort.TheVariants.{Fixed, Sign, Plain, Quoted, Str, Blob, Int, Hex, Float, End}
use Rattle.sql_reader.specs.Sorts.{fixed_words, number_of_word, marks, sorts, number_of}

-- the fixed word at the number
pub word_at : (k : Keyword) → slice_get fixed_words (number_of_word k) ≡ Some k
word_at K.Abort = refl
word_at K.Action = refl
word_at K.Add = refl
word_at K.After = refl
word_at K.All = refl
word_at K.Alter = refl
word_at K.Always = refl
word_at K.Analyze = refl
word_at K.And = refl
word_at K.As = refl
word_at K.Asc = refl
word_at K.Attach = refl
word_at K.AutoIncrement = refl
word_at K.Before = refl
word_at K.Begin = refl
word_at K.Between = refl
word_at K.By = refl
word_at K.Cascade = refl
word_at K.Case = refl
word_at K.Cast = refl
word_at K.Check = refl
word_at K.Collate = refl
word_at K.Column = refl
word_at K.Commit = refl
word_at K.Conflict = refl
word_at K.Constraint = refl
word_at K.Create = refl
word_at K.Cross = refl
word_at K.Current = refl
word_at K.CurrentDate = refl
word_at K.CurrentTime = refl
word_at K.CurrentTimestamp = refl
word_at K.Database = refl
word_at K.Default = refl
word_at K.Deferrable = refl
word_at K.Deferred = refl
word_at K.Delete = refl
word_at K.Desc = refl
word_at K.Detach = refl
word_at K.Distinct = refl
word_at K.Do = refl
word_at K.Drop = refl
word_at K.Each = refl
word_at K.Else = refl
word_at K.End = refl
word_at K.Escape = refl
word_at K.Except = refl
word_at K.Exclude = refl
word_at K.Exclusive = refl
word_at K.Exists = refl
word_at K.Explain = refl
word_at K.Fail = refl
word_at K.Filter = refl
word_at K.First = refl
word_at K.Following = refl
word_at K.For = refl
word_at K.Foreign = refl
word_at K.From = refl
word_at K.Full = refl
word_at K.Generated = refl
word_at K.Glob = refl
word_at K.Group = refl
word_at K.Groups = refl
word_at K.Having = refl
word_at K.If = refl
word_at K.Ignore = refl
word_at K.Immediate = refl
word_at K.In = refl
word_at K.Index = refl
word_at K.Indexed = refl
word_at K.Initially = refl
word_at K.Inner = refl
word_at K.Insert = refl
word_at K.Instead = refl
word_at K.Intersect = refl
word_at K.Into = refl
word_at K.Is = refl
word_at K.IsNull = refl
word_at K.Join = refl
word_at K.Key = refl
word_at K.Last = refl
word_at K.Left = refl
word_at K.Like = refl
word_at K.Limit = refl
word_at K.Match = refl
word_at K.Materialized = refl
word_at K.Natural = refl
word_at K.No = refl
word_at K.Not = refl
word_at K.Nothing = refl
word_at K.NotNull = refl
word_at K.Null = refl
word_at K.Nulls = refl
word_at K.Of = refl
word_at K.Offset = refl
word_at K.On = refl
word_at K.Or = refl
word_at K.Order = refl
word_at K.Others = refl
word_at K.Outer = refl
word_at K.Over = refl
word_at K.Partition = refl
word_at K.Plan = refl
word_at K.Pragma = refl
word_at K.Preceding = refl
word_at K.Primary = refl
word_at K.Query = refl
word_at K.Raise = refl
word_at K.Range = refl
word_at K.Rebuild = refl
word_at K.Recursive = refl
word_at K.References = refl
word_at K.Regexp = refl
word_at K.Reindex = refl
word_at K.Release = refl
word_at K.Rename = refl
word_at K.Replace = refl
word_at K.Restrict = refl
word_at K.Returning = refl
word_at K.Right = refl
word_at K.Rollback = refl
word_at K.Row = refl
word_at K.Rows = refl
word_at K.Savepoint = refl
word_at K.Select = refl
word_at K.Set = refl
word_at K.Table = refl
word_at K.Temp = refl
word_at K.Temporary = refl
word_at K.Then = refl
word_at K.Ties = refl
word_at K.To = refl
word_at K.Transaction = refl
word_at K.Trigger = refl
word_at K.Unbounded = refl
word_at K.Union = refl
word_at K.Unique = refl
word_at K.Update = refl
word_at K.Using = refl
word_at K.Vacuum = refl
word_at K.Values = refl
word_at K.View = refl
word_at K.Virtual = refl
word_at K.When = refl
word_at K.Where = refl
word_at K.Window = refl
word_at K.With = refl
word_at K.Without = refl

-- an element of the front of joined lists, made into something else
get_made : {X Y : Type 0} (f : X → Y) (xs : List X) (ys : List Y) (i : ℕ) (x : X) → slice_get xs i ≡ Some x → slice_get (map f xs ++ ys) i ≡ Some (f x)
get_made f [] ys i x is = absurd (cc)
get_made f (z ∷ xs) ys zero x is = ap (λ v. Some (f v)) (same_Some z x is)
get_made f (z ∷ xs) ys (suc i) x is = get_made f xs ys i x is

-- the sort at the number
pub at_number : (s : Sort) → slice_get sorts (number_of s) ≡ Some s
at_number (Fixed k) = get_made Fixed fixed_words (map Sign marks ++ (Plain ∷ Quoted ∷ Str ∷ Blob ∷ Int ∷ Hex ∷ Float ∷ End ∷ [])) (number_of_word k) k (word_at k)
at_number (Sign Mark'.Opening) = refl
at_number (Sign Mark'.Closing) = refl
at_number (Sign Mark'.Comma) = refl
at_number (Sign Mark'.Semicolon) = refl
at_number (Sign Mark'.Dot) = refl
at_number (Sign Mark'.Plus) = refl
at_number (Sign Mark'.Minus) = refl
at_number (Sign Mark'.Star) = refl
at_number (Sign Mark'.Tilde) = refl
at_number (Sign Mark'.Equal) = refl
at_number (Sign Mark'.Operator) = refl
at_number Plain = refl
at_number Quoted = refl
at_number Str = refl
at_number Blob = refl
at_number Int = refl
at_number Hex = refl
at_number Float = refl
at_number End = refl
