-- What is made of operators once their operands are read; and keys of object literals and object bindings.
use Rattle.std.specs.Prelude.{◌+◌, ◌-◌, ◌*◌, ◌≤◌, ◌<◌, ◌≡◌, ◌++◌, if◌then◌else◌, Ok, Err, Option, Some, None}
use Rattle.rows.specs.Base.{ℕ, Bool, true, not, List, length, get_or, ◌or◌, ◌and◌, ◌is◌, Cause, Tree, node, cons, one, Record, is_name, is_word}
use Rattle.tokens.specs.Kind.{Question2, Star2, Str, Number, Colon}
use Rattle.rows.specs.Post.{Grown}
use Rattle.grammar.specs.{Sheet.sheet_of, Sheet.done, Sheet.fail, Job.left_hand_side, Job.postfix, Job.unary, Binary.operation_kind, Binary.operation_records}
use Rattle.grammar.specs.Update.{is_unary_operator, is_update_operator}
use Rattle.conversion.specs.Conversion.{potential as owed}
use Rattle.build.specs.{Post.Comes, Post.Made, Post.Unmade, declared.cursor.Cursor.Cursor, Post.Step}
use Rattle.rows.specs.Row as Row

abbrev pub or_and : List ℕ → List ℕ → ℕ → Bool  -- the row is a Logical one whose own operator is `||` or `&&`
or_and ks r root = get_or r (6 * root + 0) 0 is Row.Logical and not (get_or ks (get_or r (6 * root + 1) 0) 0 is Question2)

abbrev pub record_number : List ℕ → List ℕ → ℕ → ℕ → ℕ → Option ℕ  -- the number of the record of a binary row over two rows, if it has one
record_number ks r at left right =
    if get_or ks at 0 is Question2 then (if or_and ks r left or or_and ks r right then Some 6 else None)
    else if get_or ks at 0 is Star2 and get_or r (6 * left + 0) 0 is Row.Unary then Some 7
    else None

abbrev pub is_prefix_operator : ℕ → Bool  -- a prefix operator
is_prefix_operator k = is_unary_operator k or is_update_operator k

-- two operands stand, one from `from` and one from `left` up to the cursor; there is room for a row and a record
pub record FinishFits (r s : List ℕ) (d : Cursor) (at first left from : ℕ) : Type 0 where
  pub room : 6 * d.rows + 6 ≤ length r
  pub deep : 2 * d.records + 2 ≤ length s
  pub rows_small : d.rows ≤ 2048
  pub records_small : d.records ≤ 2048
  pub place_small : d.at ≤ 2048
  pub at_small : at ≤ 2048
  pub first_small : first ≤ 2048
  pub from_before : from < left
  pub left_before : left < d.rows

-- the row over both operands was written, and its record
pub record Finished (ks r₀ s₀ : List ℕ) (d : Cursor) (at first left from : ℕ) (r s : List ℕ) (u : Cursor) : Type 0 where
  pub place : u.at ≡ d.at
  pub made : (fs : List ℕ) (a b : Tree) → Grown r₀ from r₀ left (one a) → Grown r₀ left r₀ d.rows (one b)
      → Made r₀ s₀ from d.records r s u (one (node (operation_kind (get_or ks at 0)) at first d.at (cons a (one b)))) (operation_records (sheet_of ks fs) at a b)

-- an operand stands from `from` up to the cursor; there is room for a row for each token left, and for the records of its conversion
pub record OperandFits (ks r s : List ℕ) (d : Cursor) (from : ℕ) : Type 0 where
  pub short : length ks ≤ 2048
  pub wide : 6 * (length ks + d.rows) ≤ length r + 6 * d.at
  pub inside : d.at ≤ length ks
  pub few : d.rows ≤ d.at
  pub some : from < d.rows
  pub operand : Tree
  pub stands : Grown r from r d.rows (one operand)
  pub deep : 2 * (d.records + owed operand) ≤ length s
  pub records_small : d.records ≤ 2048

-- an update after an operand, or none: what is left of here comes to this
pub record PostfixTo (ks fs r₀ s₀ : List ℕ) (d : Cursor) (first from : ℕ) (r s : List ℕ) (left : Tree) (u : Cursor) : Type 0 where
  pub tree : Tree
  pub records : List Record
  pub comes : {m₀ m : List ℕ} {rs : List Record} → Comes ks fs (left_hand_side first) m₀ (done d.at (one left) rs m) → Comes ks fs (postfix first) m₀ (done u.at (one tree) (rs ++ records) m)
  pub made : Made r₀ s₀ from d.records r s u (one tree) records

pub record PostfixFail (ks fs r₀ s₀ : List ℕ) (d : Cursor) (first from : ℕ) (r s : List ℕ) (left : Tree) (cause : Cause) : Type 0 where
  pub comes : {m₀ m : List ℕ} {rs : List Record} → Comes ks fs (left_hand_side first) m₀ (done d.at (one left) rs m) → Comes ks fs (postfix first) m₀ (fail cause m)
  pub rows_same : r ≡ r₀
  pub records_same : s ≡ s₀

pub record MetPostfix (ks fs r₀ s₀ : List ℕ) (d : Cursor) (first from : ℕ) (r s : List ℕ) (x : Step) : Type 0 where
  pub done_to : (u : Cursor) → x ≡ Ok u → (left : Tree) → Grown r₀ from r₀ d.rows (one left) → 2 * (d.records + owed left) ≤ length s₀ → PostfixTo ks fs r₀ s₀ d first from r s left u
  pub fail_at : (cause : Cause) → x ≡ Err cause → (left : Tree) → Grown r₀ from r₀ d.rows (one left) → 2 * (d.records + owed left) ≤ length s₀
      → PostfixFail ks fs r₀ s₀ d first from r s left cause

-- prefix operators stand from `first` up to `start`, and their operand up to the cursor; there is room for a row for each
pub record PrefixFits (ks r s : List ℕ) (d : Cursor) (first start from : ℕ) : Type 0 where
  pub room : 6 * (d.rows + (start - first)) ≤ length r
  pub rows_small : d.rows + (start - first) ≤ 2048
  pub place_small : d.at ≤ 2048
  pub before : first ≤ start
  pub start_small : start ≤ 2048
  pub some : from < d.rows
  pub operand : Tree
  pub stands : Grown r from r d.rows (one operand)
  pub deep : 2 * (d.records + owed operand) ≤ length s
  pub records_small : d.records + owed operand ≤ 2048
  pub operators : (i : ℕ) → first ≤ i → i < start → is_prefix_operator (get_or ks i 0) ≡ true

-- the rows of all of them were written: what the operand comes to, the whole comes to; or an update's operand is refused
pub record PrefixedTo (ks fs r₀ s₀ : List ℕ) (d : Cursor) (first from : ℕ) (m₀ m : List ℕ) (rs : List Record) (r s : List ℕ) (u : Cursor) : Type 0 where
  pub tree : Tree
  pub records : List Record
  pub comes : Comes ks fs (unary first) m₀ (done u.at (one tree) (rs ++ records) m)
  pub made : Made r₀ s₀ from d.records r s u (one tree) records

pub record PrefixedFail (ks fs r₀ s₀ : List ℕ) (d : Cursor) (first from : ℕ) (m₀ m : List ℕ) (r s : List ℕ) (cause : Cause) : Type 0 where
  pub comes : Comes ks fs (unary first) m₀ (fail cause m)
  pub unmade : Unmade r₀ s₀ from d.records r s

-- what is known of the operand
pub record Before (ks fs r₀ s₀ : List ℕ) (d : Cursor) (start from : ℕ) (m₀ m : List ℕ) (rs : List Record) : Type 0 where
  pub left : Tree
  pub stands : Grown r₀ from r₀ d.rows (one left)
  pub deep : 2 * (d.records + owed left) ≤ length s₀
  pub comes : Comes ks fs (unary start) m₀ (done d.at (one left) rs m)

pub record MetPrefixes (ks r₀ s₀ : List ℕ) (d : Cursor) (first start from : ℕ) (r s : List ℕ) (x : Step) : Type 0 where
  pub done_to : (u : Cursor) → x ≡ Ok u → (fs m₀ m : List ℕ) (rs : List Record) → Before ks fs r₀ s₀ d start from m₀ m rs → PrefixedTo ks fs r₀ s₀ d first from m₀ m rs r s u
  pub fail_at : (cause : Cause) → x ≡ Err cause → (fs m₀ m : List ℕ) (rs : List Record) → Before ks fs r₀ s₀ d start from m₀ m rs
      → PrefixedFail ks fs r₀ s₀ d first from m₀ m r s cause

abbrev pub is_shorthand : List ℕ → ℕ → Bool  -- a name stands at the place, and no `:` after it
is_shorthand ks at = is_name (get_or ks at 0) and not (get_or ks (at + 1) 0 is Colon)

abbrev pub is_key : ℕ → Bool  -- a key of one token
is_key k = is_word k or k is Str or k is Number
