-- What the contracts of the reader say: the room that it asks, what a part of a reading comes to, and what it leaves in the lent buffers.
-- ks and fs are the kinds and flags; r, s and m the words of the rows, of the records, and the notes.
use Rattle.std.specs.Prelude.{◌+◌, ◌-◌, ◌*◌, ◌^◌, ◌≤◌, ◌<◌, ◌≡◌, Ok, Err, Result}
use Rattle.rows.specs.Base.{ℕ, List, length, get_or, Cause, Tree, Forest, one, count, Record}
use Rattle.rows.specs.Post.{Pushed, PushedRecord, Grown, Kept, GrownRecords, KeptRecords}
use Rattle.grammar.specs.{Sheet.sheet_of, Sheet.Out, Sheet.done, Sheet.fail, Job.Job, Job.assignment, Reading.box}
use Rattle.laws.specs.Settles.{Settles}
use Rattle.conversion.specs.Conversion.{potential as owed}
use Rattle.build.specs.declared.cursor.Cursor.{Cursor}
use Rattle.heads.specs.declared.Head.{Head}

abbrev pub Step : Type 0  -- what comes of reading a part: it is read up to a cursor, or refused
Step = Result Cursor Cause

abbrev pub Listed : Type 0  -- what comes of reading a list: it is read up to a cursor, with so many kids, or refused
Listed = Result (Cursor × ℕ) Cause

abbrev pub cursor : ℕ → ℕ → ℕ → Cursor
cursor at rows records = record { at = at; rows = rows; records = records }

pub record Comes (ks fs : List ℕ) (job : Job) (m : List ℕ) (out : Out (List ℕ)) : Type 0 where  -- in the box's reading a nonterminal comes to this
  pub settles : Settles (box (sheet_of ks fs)) (sheet_of ks fs) job m out

-- there is room for a row for each token left and for a record for each token; no more rows and no more records are used than tokens passed
pub record Room (ks r s : List ℕ) (c : Cursor) : Type 0 where
  pub short : length ks ≤ 2048
  pub wide : 6 * (length ks + c.rows) ≤ length r + 6 * c.at
  pub deep : 2 * length ks ≤ length s
  pub inside : c.at ≤ length ks
  pub few : c.rows ≤ c.at
  pub said : c.records ≤ c.at

-- trees and records were added after the first n rows and k records
pub record Made (r₀ s₀ : List ℕ) (n k : ℕ) (r s : List ℕ) (d : Cursor) (trees : Forest) (records : List Record) : Type 0 where
  pub grown : Grown r₀ n r d.rows trees
  pub recorded : GrownRecords s₀ k s d.records records

pub record Unmade (r₀ s₀ : List ℕ) (n k : ℕ) (r s : List ℕ) : Type 0 where  -- the first n rows and k records are as they were
  pub kept : Kept r₀ n r
  pub kept_records : KeptRecords s₀ k s

-- a nonterminal was read up to a cursor: what it comes to was added
pub record ReadTo (ks fs r₀ s₀ m₀ r s m : List ℕ) (job : Job) (n k : ℕ) (d : Cursor) : Type 0 where
  pub trees : Forest
  pub records : List Record
  pub comes : Comes ks fs job m₀ (done d.at trees records m)
  pub made : Made r₀ s₀ n k r s d trees records

-- a nonterminal was refused, and nothing is left of it
pub record Refused (ks fs r₀ s₀ m₀ r s m : List ℕ) (job : Job) (n k : ℕ) (cause : Cause) : Type 0 where
  pub comes : Comes ks fs job m₀ (fail cause m)
  pub unmade : Unmade r₀ s₀ n k r s

-- the same for a nonterminal that gives any number of trees
pub record ListTo (ks fs r₀ s₀ m₀ r s m : List ℕ) (job : Job) (n k : ℕ) (d : Cursor) (kids : ℕ) : Type 0 where
  pub trees : Forest
  pub records : List Record
  pub comes : Comes ks fs job m₀ (done d.at trees records m)
  pub made : Made r₀ s₀ n k r s d trees records
  pub counted : kids ≡ count trees

pub record Met (ks fs r₀ s₀ m₀ r s m : List ℕ) (job : Job) (n k : ℕ) (x : Step) : Type 0 where  -- a step does what the nonterminal comes to
  pub done_to : (d : Cursor) → x ≡ Ok d → ReadTo ks fs r₀ s₀ m₀ r s m job n k d
  pub fail_at : (cause : Cause) → x ≡ Err cause → Refused ks fs r₀ s₀ m₀ r s m job n k cause

-- the same for a nonterminal over the one tree that was read last: its rows stand from `from` up to n
pub record MetOver (ks fs r₀ s₀ m₀ r s m : List ℕ) (job : Tree → Job) (from n k : ℕ) (x : Step) : Type 0 where
  pub over_one : (left : Tree) → Grown r₀ from r₀ n (one left) → Met ks fs r₀ s₀ m₀ r s m (job left) from k x

-- the same over the trees that were read last
pub record MetAfter (ks fs r₀ s₀ m₀ r s m : List ℕ) (job : Forest → Job) (from n kids k : ℕ) (x : Step) : Type 0 where
  pub over_all : (trees : Forest) → kids ≡ count trees → Grown r₀ from r₀ n trees → Met ks fs r₀ s₀ m₀ r s m (job trees) from k x

-- a nonterminal that gives any number of trees was read up to a cursor, with their number, or refused
pub record MetList (ks fs r₀ s₀ m₀ r s m : List ℕ) (job : Job) (n k : ℕ) (x : Listed) : Type 0 where
  pub list_to : (d : Cursor) (kids : ℕ) → x ≡ Ok (d, kids) → ListTo ks fs r₀ s₀ m₀ r s m job n k d kids
  pub list_fail : (cause : Cause) → x ≡ Err cause → Refused ks fs r₀ s₀ m₀ r s m job n k cause

-- a nonterminal and then a token were read, up to past the token; or the nonterminal was refused, or the token does not stand there
pub record ClosedTo (ks fs r₀ s₀ m₀ r s m : List ℕ) (job : Job) (close n k : ℕ) (d : Cursor) : Type 0 where
  pub end : ℕ
  pub trees : Forest
  pub records : List Record
  pub comes : Comes ks fs job m₀ (done end trees records m)
  pub token : get_or ks end 0 ≡ close
  pub past : d.at ≡ end + 1
  pub made : Made r₀ s₀ n k r s d trees records

pub data NotClosed (ks fs m₀ m : List ℕ) (job : Job) (close : ℕ) (cause_at : ℕ → Cause) (cause : Cause) : Type 0 where
  not_read : Comes ks fs job m₀ (fail cause m) → NotClosed ks fs m₀ m job close cause_at cause
  no_token : (end : ℕ) (trees : Forest) (records : List Record) → Comes ks fs job m₀ (done end trees records m) → (get_or ks end 0 ≡ close → ⊥)
      → cause ≡ cause_at end → NotClosed ks fs m₀ m job close cause_at cause

pub record NotClosedAt (ks fs r₀ s₀ m₀ r s m : List ℕ) (job : Job) (close : ℕ) (cause_at : ℕ → Cause) (n k : ℕ) (cause : Cause) : Type 0 where
  pub why : NotClosed ks fs m₀ m job close cause_at cause
  pub unmade : Unmade r₀ s₀ n k r s

pub record MetClosed (ks fs r₀ s₀ m₀ r s m : List ℕ) (job : Job) (close : ℕ) (cause_at : ℕ → Cause) (n k : ℕ) (x : Step) : Type 0 where
  pub closed_to : (d : Cursor) → x ≡ Ok d → ClosedTo ks fs r₀ s₀ m₀ r s m job close n k d
  pub closed_fail : (cause : Cause) → x ≡ Err cause → NotClosedAt ks fs r₀ s₀ m₀ r s m job close cause_at n k cause

pub record Leafed (r₀ : List ℕ) (c : Cursor) (kind : ℕ) (r : List ℕ) (d : Cursor) : Type 0 where  -- a row over one token was written
  pub is : d ≡ cursor (c.at + 1) (c.rows + 1) c.records
  pub pushed : Pushed r₀ c.rows kind c.at c.at (c.at + 1) 0 1 r

-- a row over the rows from `from` on was written
pub record Topped (r₀ : List ℕ) (c : Cursor) (kind mark first end kids from : ℕ) (r : List ℕ) (d : Cursor) : Type 0 where
  pub is : d ≡ cursor end (c.rows + 1) c.records
  pub pushed : Pushed r₀ c.rows kind mark first end kids (c.rows - from + 1) r

pub record Said (s₀ : List ℕ) (c : Cursor) (number place : ℕ) (s : List ℕ) (d : Cursor) : Type 0 where  -- a record was written
  pub is : d ≡ cursor c.at c.rows (c.records + 1)
  pub pushed : PushedRecord s₀ c.records number place s

pub record RowRoom (words : ℕ) (c : Cursor) : Type 0 where  -- in so many words the next row has room, and all its words are small
  pub room : 6 * c.rows + 6 ≤ words
  pub small : c.rows ≤ 2048

pub record LeafRoom (words : ℕ) (c : Cursor) : Type 0 where
  pub row : RowRoom words c
  pub at_small : c.at ≤ 2048

pub record TopRoom (words : ℕ) (c : Cursor) (mark first end kids from : ℕ) : Type 0 where
  pub row : RowRoom words c
  pub mark_small : mark ≤ 2048
  pub first_small : first ≤ 2048
  pub end_small : end ≤ 4096
  pub kids_small : kids ≤ 2048
  pub from_before : from ≤ c.rows

pub record SayRoom (words : ℕ) (c : Cursor) (place : ℕ) : Type 0 where  -- in so many words the next record has room, and its place fits
  pub room : 2 * c.records + 2 ≤ words
  pub small : c.records ≤ 2048
  pub place_fits : place < 2 ^ 32

-- what was read last stands from the row `from` on and began at `first`; an operator or a bracket stands after it, and its records have room
pub record Operand (ks r : List ℕ) (c : Cursor) (first from : ℕ) : Type 0 where
  pub next : c.at < length ks
  pub began : first < c.at
  pub some : from < c.rows
  pub left : Tree
  pub stands : Grown r from r c.rows (one left)
  pub few_rows : c.rows + first ≤ from + c.at
  pub few_records : c.records + owed left ≤ c.at

pub record HeadFits (ks : List ℕ) (c : Cursor) (h : Head) : Type 0 where  -- a head was read, and its `=>` stands here
  pub arrow : c.at < length ks
  pub first_before : h.first < c.at
  pub from_before : h.from ≤ c.rows
  pub kids_few : h.kids ≤ c.at

-- a name was read, whose row stands at `from` and whose token just before the `=` here
pub record NameFits (ks : List ℕ) (c : Cursor) (from : ℕ) : Type 0 where
  pub equals : c.at < length ks
  pub name : 0 < c.at
  pub row : c.rows ≡ from + 1
  pub few : c.rows ≤ c.at

-- a part of an object begins here, whose row is not written yet: there is room for one row more than for each token left
pub record PartFits (ks r : List ℕ) (c : Cursor) : Type 0 where
  pub spare : 6 * (length ks + c.rows + 1) ≤ length r + 6 * c.at

-- an initializer was read, and the row over a name and it was written; or the initializer was refused
pub record InitTo (ks fs r₀ s₀ m₀ r s m : List ℕ) (at kind from n k : ℕ) (d : Cursor) : Type 0 where
  pub trees : Forest
  pub records : List Record
  pub comes : Comes ks fs (assignment (at + 1)) m₀ (done d.at trees records m)
  pub rows : List ℕ
  pub before : Cursor
  pub made : Made r₀ s₀ n k rows s before trees records
  pub topped : Topped rows before kind at (at - 1) d.at 2 from r d

pub record MetInit (ks fs r₀ s₀ m₀ r s m : List ℕ) (at kind from n k : ℕ) (x : Step) : Type 0 where
  pub init_to : (d : Cursor) → x ≡ Ok d → InitTo ks fs r₀ s₀ m₀ r s m at kind from n k d
  pub init_fail : (cause : Cause) → x ≡ Err cause → Refused ks fs r₀ s₀ m₀ r s m (assignment (at + 1)) n k cause
