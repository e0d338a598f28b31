-- The words in which the demands are said: what firmware hands to an entry of the archive, what it sees afterwards, and what the numbers and words that it sees say.
use Rattle.std.specs.Prelude.{◌+◌, ◌-◌, ◌*◌, ◌≤◌, ◌<◌, ◌≡◌, ◌++◌, Ok, Err}
use Rattle.rows.specs.Base.{ℕ, Bool, true, List, length, take, drop, replicate, number, place, Cause, Checked, ◌and_then◌, check_length, check_flag_length, check_flags, check_kinds, Tree, Forest, size, sizes, flat, flats, node, cons, kind_of, first_of, end_of, Record, record_words, ◌is◌, ◌or◌}
use Rattle.lookahead.specs.{ThreeWay.three_way, Entry.check_place}
use Rattle.rows.specs.{Part.WellFormed, Handed.Inside, Handed.chosen}
use Rattle.conversion.specs.{Conversion.turned, Conversion.refused as not_turned, Conversion.convert, Entry.Sized}
use Rattle.grammar.specs.{Sheet.Sheet, Sheet.sheet_of, Job.Job, Lent.checks, Lent.padded, Told.ToldRead, Told.ToldPattern, Told.ToldConvert, Told.tristate_number}
use Rattle.grammar.specs.Reading.{Whole, whole, refused, reading, box, cleared, noted_places}
use Rattle.agreement.specs.Terms.{Counted, deepest, Ended}
use Rattle.ecma262.specs.Derives.{SimpleTarget, AssignmentPattern, Derived}
use Rattle.rows.specs.Row as Row

pub record Input : Type 0 where  -- handed to vuolmaset_read and vuolmaset_pattern: kinds and flags, and the words that both lent buffers hold before
  pub kinds : List ℕ
  pub flags : List ℕ
  pub rows : List ℕ
  pub records : List ℕ

-- handed to vuolmaset_convert: the words of a tree, the number of a row, and the words that the lent record buffer holds before
pub record TreeInput : Type 0 where
  pub tree : List ℕ
  pub row : ℕ
  pub records : List ℕ

pub record Output : Type 0 where  -- seen afterwards: the number returned, the three numbers told, and every word of both buffers
  pub number : ℕ
  pub first : ℕ
  pub second : ℕ
  pub third : ℕ
  pub rows : List ℕ
  pub records : List ℕ

abbrev pub sheet : Input → Sheet  -- the list that is handed in
sheet i = sheet_of i.kinds i.flags

abbrev pub Passes : Input → Type 0  -- it passes the checks 1 to 7
Passes i = checks (sheet i) i.rows i.records ≡ Ok tt

abbrev pub comes_to : Job → Input → Whole (List ℕ)  -- what the box's reader comes to on it, as an Expression or as a pattern
comes_to job i = reading (box (sheet i)) (sheet i) job cleared

-- THE CONTRACTS: this output is allowed for this input
abbrev pub ByRead : Input → Output → Type 0
ByRead i x = ToldRead i.kinds i.flags i.rows i.records x.rows x.records x.first x.second x.third x.number

abbrev pub ByPattern : Input → Output → Type 0
ByPattern i x = ToldPattern i.kinds i.flags i.rows i.records x.rows x.records x.first x.second x.third x.number

abbrev pub ByConvert : TreeInput → Output → Type 0
ByConvert i x = ToldConvert i.tree i.records i.row x.rows x.records x.first x.second x.third x.number

-- WHAT IS SEEN
-- Read as these trees with these records: 0, so many rows and records, and the buffers hold their words and then 0
pub record Shown (i : Input) (x : Output) (trees : Forest) (said : List Record) : Type 0 where
  pub number : x.number ≡ 0
  pub first : x.first ≡ sizes trees
  pub second : x.second ≡ length said
  pub rows : x.rows ≡ padded (flats trees) (length i.rows)
  pub records : x.records ≡ padded (record_words said) (length i.records)

-- Clean with this tree: 0, as many rows as it has, no record; the rows hold its words and then 0, the records only 0
pub record Clean (i : Input) (x : Output) (t : Tree) : Type 0 where
  pub number : x.number ≡ 0
  pub first : x.first ≡ size t
  pub no_record : x.second ≡ 0
  pub rows : x.rows ≡ padded (flat t) (length i.rows)
  pub records : x.records ≡ replicate (length i.records) 0

-- Refused for this cause: its number, which is one from low to high, and its place, which is at most the number of tokens; and then twice 0
pub record Refused (cause : Cause) (low high : ℕ) (i : Input) (x : Output) : Type 0 where
  pub number : x.number ≡ number cause
  pub low_enough : low ≤ x.number
  pub high_enough : x.number ≤ high
  pub first : x.first ≡ place cause
  pub inside : x.first ≤ length i.kinds
  pub second : x.second ≡ 0
  pub third : x.third ≡ 0

pub data Answered (job : Job) (i : Input) (x : Output) : Type 0 where  -- the three ways in which vuolmaset_read and vuolmaset_pattern answer
  -- 0: what the definition reads, at most a row and a record for each token, and how many heads were abandoned
  read : Passes i → (trees : Forest) (said : List Record) (notes : List ℕ) → comes_to job i ≡ whole trees said notes → Shown i x trees said
      → x.first ≤ length i.kinds → x.second ≤ length i.kinds → x.third ≡ noted_places notes → Answered job i x
  -- 1 to 7, the first check that refuses: both buffers hold what they held
  checked : (cause : Cause) → checks (sheet i) i.rows i.records ≡ Err cause → Refused cause 1 7 i x → x.rows ≡ i.rows → x.records ≡ i.records → Answered job i x
  -- 8 to 12, where the definition refuses: every word of both buffers is 0
  unread : Passes i → (cause : Cause) → comes_to job i ≡ refused cause → Refused cause 8 12 i x
      → x.rows ≡ replicate (length i.rows) 0 → x.records ≡ replicate (length i.records) 0 → Answered job i x

-- The work for a list: after it the counting reader has ended as the reader does, done or failed, and has applied so many productions of the definition. After Read the abandoned heads are those told.
pub record Bounded (job : Job) (i : Input) (x : Output) : Type 0 where
  pub after : Counted (List ℕ)
  pub ended : Ended (sheet i) job after
  pub by_tokens : after.steps ≤ 4485 * length i.kinds
  pub by_nesting : after.steps ≤ 69 * (length i.kinds * (1 + deepest (sheet i)))
  pub by_abandoned : after.steps ≤ (13 * length i.kinds + 12) * (1 + noted_places after.notes)
  pub abandoned_told : x.number ≡ 0 → x.third ≡ noted_places after.notes

-- vuolmaset_convert refused for this cause: its number and place, and then twice 0; both buffers hold what they held
pub record Unchanged (cause : Cause) (i : TreeInput) (x : Output) : Type 0 where
  pub number : x.number ≡ number cause
  pub first : x.first ≡ place cause
  pub second : x.second ≡ 0
  pub third : x.third ≡ 0
  pub rows : x.rows ≡ i.tree
  pub records : x.records ≡ i.records

pub data Converted (i : TreeInput) (x : Output) : Type 0 where  -- the ways in which vuolmaset_convert answers
  wrong_size : (Sized i.tree → ⊥) → Unchanged (Cause.Length 0) i x → Converted i x  -- 1: no words, or over 12,288
  no_tree : Sized i.tree → (WellFormed i.tree → ⊥) → Unchanged (Cause.Tree 0) i x → Converted i x  -- 13: not the words of a well-formed tree
  -- 14: not a row of it
  no_row : (whole : WellFormed i.tree) → (i.row < size whole.tree → ⊥) → Unchanged (Cause.Outside 0) i x → Converted i x
  -- 4: fewer than two record words for each row of the subtree
  no_room : (inside : Inside i.tree i.row) → (2 * size (chosen inside) ≤ length i.records → ⊥) → Unchanged (Cause.RecordRoom 0) i x → Converted i x
  -- 9 or 10: the conversion refuses
  no_target : (inside : Inside i.tree i.row) → 2 * size (chosen inside) ≤ length i.records → (cause : Cause) → convert (chosen inside) ≡ not_turned cause
      → 9 ≤ number cause → number cause ≤ 10 → Unchanged cause i x → Converted i x
  -- 0: the subtree's rows become those of its conversion, and no other row changes; the records, and then 0
  converted : (inside : Inside i.tree i.row) → 2 * size (chosen inside) ≤ length i.records → (t : Tree) (said : List Record) → convert (chosen inside) ≡ turned t said
      → x.number ≡ 0 → x.first ≡ size (chosen inside) → x.second ≡ length said → x.third ≡ 0
      → x.rows ≡ take (6 * (i.row + 1 - size (chosen inside))) i.tree ++ (flat t ++ drop (6 * (i.row + 1)) i.tree)
      → x.records ≡ record_words said ++ replicate (length i.records - 2 * length said) 0 → Converted i x

abbrev pub three_way_checks : List ℕ → List ℕ → ℕ → Checked  -- the checks of vuolmaset_three_way: 1, 2, 5, 6, 14
three_way_checks kinds flags at =
    check_length kinds and_then check_flag_length kinds flags and_then check_flags flags and_then check_kinds kinds and_then check_place kinds at

-- the two ways in which vuolmaset_three_way answers
pub data ThreeWayAnswered (kinds flags : List ℕ) (is_ts is_jsx : Bool) (at told returned : ℕ) : Type 0 where
  -- 0: the checks pass; the three-way answer at the place, 0 False, 1 True, 2 Maybe
  three_told : three_way_checks kinds flags at ≡ Ok tt → returned ≡ 0 → told ≡ tristate_number (three_way kinds flags is_ts is_jsx at) → ThreeWayAnswered kinds flags is_ts is_jsx at told returned
  -- refused: the first check that fails; its number, and its place, at most the number of tokens
  three_refused : (cause : Cause) → three_way_checks kinds flags at ≡ Err cause → returned ≡ number cause → 1 ≤ number cause → number cause ≤ 14 → told ≡ place cause → place cause ≤ length kinds
      → ThreeWayAnswered kinds flags is_ts is_jsx at told returned

-- THE TARGETS: in a tree, the rows of a target's kind, and what it is that they are the standard's targets
unfoldable pub is_simple : ℕ → Bool  -- the kinds of rows that stand for simple targets
is_simple k = k is Row.TargetName or k is Row.TargetParen or k is Row.TargetMember or k is Row.TargetIndex

unfoldable pub is_pattern : ℕ → Bool  -- and for patterns
is_pattern k = k is Row.TargetArray or k is Row.TargetObject

pub record Own (s : Sheet) (t : Tree) : Type 0 where  -- a row of a target's kind is the standard's target, over its own tokens
  pub simple : is_simple (kind_of t) ≡ true → Derived s SimpleTarget (first_of t) (end_of t) t
  pub pattern : is_pattern (kind_of t) ≡ true → Derived s AssignmentPattern (first_of t) (end_of t) t

-- a tree that stands in another, or is it
mutual
  pub data In (u : Tree) : Tree → Type 0 where
    itself : In u u
    below : {kind mark first end : ℕ} {kids : Forest} → Among u kids → In u (node kind mark first end kids)

  pub data Among (u : Tree) : Forest → Type 0 where
    here : {t : Tree} {ts : Forest} → In u t → Among u (cons t ts)
    later : {t : Tree} {ts : Forest} → Among u ts → Among u (cons t ts)
