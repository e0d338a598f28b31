-- Rows that wait for their last part, and what is left to come of a reading while they wait. Each says what it makes of the part that it waits for,
-- in terms of what the reader of that part promises (`Met`); the outermost makes the whole.
use Rattle.std.specs.Prelude.{◌+◌, ◌*◌, ◌≤◌, ◌<◌, ◌-◌, ◌≡◌, ◌∷◌, ◌++◌, if◌then◌else◌, Ok, Err}
use Rattle.rows.specs.Base.{ℕ, List, [], length, get_or, drop, Tree, one, row, Record, break_before_arrow, Bool, true, false, not, ◌is◌, ◌or◌, Cause}
use Rattle.grammar.specs.{Sheet.Out, Sheet.after_records, Sheet.sheet_of, Job.binary, Job.operators, Job.Job, Job.assignment, Job.value, Job.body}
use Rattle.grammar.specs.{Assignment.is_async_name, Binary.operation_kind, Binary.right_floor}
use Rattle.conversion.specs.Conversion.{potential as owed}
use Rattle.build.specs.Post.{Comes, Made, cursor, Met, MetAfter, Topped, TopRoom}
use Rattle.build.specs.{declared.cursor.Cursor.Cursor, Operation.Finished, Post.Step}
use Rattle.rows.specs.Post.{GrownRecords}
use Rattle.tokens.specs.Kind.{Colon}
use Rattle.heads.specs.declared.Head.{Head}
use Rattle.rows.specs.Row as Row

-- What began at `first`, with n rows and k records before it, is one tree up to here, and the rest of it is what follows at the place.
pub record Grouped (ks fs r₀ s₀ m₀ : List ℕ) (floor first n k : ℕ) (r s m : List ℕ) (here : Cursor) (at : ℕ) : Type 0 where
  pub wide : 6 * n ≤ length r₀
  pub deep : 2 * k ≤ length s₀
  pub place : at ≡ here.at
  pub forward : first < at
  pub inside : at ≤ length ks
  pub some : n < here.rows
  pub few : here.rows + first ≤ n + at
  pub tree : Tree
  pub said : List Record
  pub few_records : here.records + owed tree + first ≤ k + at
  pub made : Made r₀ s₀ n k r s here (one tree) said
  pub rest : (out : Out (List ℕ)) → Comes ks fs (operators floor first at tree) m out → Comes ks fs (binary floor first) m₀ (after_records said out)

abbrev pub kind_for : Bool → ℕ  -- the row that `=` and the other operators make
kind_for plain = if plain then Row.Assign else Row.CompoundAssign

abbrev pub broken : List ℕ → ℕ → List Record  -- the record of a line break before an arrow
broken fs at = if get_or fs at 0 is 1 then break_before_arrow at ∷ [] else []

-- past an arrow, with a record if a line break stands before it
pub record Breaks (fs s₀ : List ℕ) (c : Cursor) (s : List ℕ) (d : Cursor) : Type 0 where
  pub at : d.at ≡ c.at + 1
  pub rows : d.rows ≡ c.rows
  pub few : d.records ≤ c.records + 1
  pub long : length s ≡ length s₀
  pub said : GrownRecords s₀ c.records s d.records (broken fs c.at)

abbrev pub Choice : ℕ  -- the kind of a Conditional that waits for its `:`
Choice = 0

abbrev pub is_operation : ℕ → Bool  -- Binary and Logical rows
is_operation kind = kind is Row.Binary or kind is Row.Logical

-- An operator with its left operand, up to the row `left`; a row that lacks its last part only; a Conditional before its `:`.
pub data Waiting : Type 0 where
  operation : (mark first left from : ℕ) → Waiting
  part : (kind mark first kids from : ℕ) → is_operation kind ≡ false → (kind ≡ Choice → ⊥) → Waiting
  choice : (mark first from : ℕ) → Waiting

abbrev pub words : List ℕ → Waiting → List ℕ  -- its words
words ks (operation mark first left from) = row (operation_kind (get_or ks mark 0)) mark first left (right_floor (get_or ks mark 0)) from
words ks (part kind mark first kids from _ _) = row kind mark first 0 kids from
words ks (choice mark first from) = row Choice mark first 0 3 from

unfoldable pub all_words : List ℕ → List Waiting → List ℕ
all_words ks [] = []
all_words ks (w ∷ ws) = words ks w ++ all_words ks ws

pub record Held (ks r : List ℕ) (top base : ℕ) (ws : List Waiting) : Type 0 where  -- from the row `top` on these wait, up to the row `base`
  pub rows : top + length ws ≡ base
  pub room : 6 * base ≤ length r
  pub tail : List ℕ
  pub text : drop (6 * top) r ≡ all_words ks ws ++ tail

abbrev pub awaits_operand : List Waiting → Bool  -- whether the innermost is an operator, and the floor of the operand that is waited for
awaits_operand (operation mark first left from ∷ ws) = true
awaits_operand (part kind mark first kids from _ _ ∷ ws) = false
awaits_operand (choice mark first from ∷ ws) = false
awaits_operand [] = false

abbrev pub floor_of : List ℕ → List Waiting → ℕ
floor_of ks (operation mark first left from ∷ ws) = right_floor (get_or ks mark 0)
floor_of ks (part kind mark first kids from _ _ ∷ ws) = 0
floor_of ks (choice mark first from ∷ ws) = 0
floor_of ks [] = 0

-- what began with the group that was read last: the operand that is waited for, or an assignment level past a head
abbrev pub begun : List ℕ → List Waiting → ℕ → Job
begun ks ws first = if awaits_operand ws then binary (floor_of ks ws) first else value first

pub record Whole : Type 0 where  -- where the whole began: the words of rows and records, the notes, the place and both counts
  pub rows : List ℕ
  pub records : List ℕ
  pub notes : List ℕ
  pub at : ℕ
  pub made : ℕ
  pub said : ℕ

pub record Spare (ks s : List ℕ) (top : ℕ) (c : Cursor) : Type 0 where  -- room for what is read at a cursor, below the row from which on rows wait
  pub short : length ks ≤ 2048
  pub wide : length ks + c.rows ≤ top + c.at
  pub deep : 2 * length ks ≤ length s
  pub inside : c.at ≤ length ks
  pub few : c.rows ≤ c.at
  pub said : c.records ≤ c.at

module _ (ks fs : List ℕ) (all : Whole) where
  abbrev pub Comes-all : List ℕ → List ℕ → List ℕ → Step → Type 0  -- the whole comes to this
  Comes-all r s m x = Met ks fs all.rows all.records all.notes r s m (assignment all.at) all.made all.said x

  -- a part was refused, and so is the whole; or it was read, and then comes what is next
  pub record Outcome (next : List ℕ → List ℕ → List ℕ → Cursor → Type 0) (r s m : List ℕ) (x : Step) : Type 0 where
    pub refused : (cause : Cause) → x ≡ Err cause → Comes-all r s m x
    pub read : (d : Cursor) → x ≡ Ok d → next r s m d

  -- whatever a nonterminal comes to from here
  pub record Starts (next : List ℕ → List ℕ → List ℕ → Cursor → Type 0) (job : Job) (r s m : List ℕ) (c : Cursor) : Type 0 where
    pub goes : (r' s' m' : List ℕ) (x : Step) → length s' ≡ length s → Met ks fs r s m r' s' m' job c.rows c.records x → Outcome next r' s' m' x

  -- whatever the body of an arrow comes to, from its `=>` on
  pub record Opens (next : List ℕ → List ℕ → List ℕ → Cursor → Type 0) (r s m : List ℕ) (d : Cursor) (h : Head) : Type 0 where
    pub goes : (r' s' m' : List ℕ) (x : Step) → length s' ≡ length s → MetAfter ks fs r s m r' s' m' (body h.kind h.first d.at) h.from d.rows h.kids d.records x
        → Outcome next r' s' m' x

  -- a group was read that is what began so far, with the operators of the floor that follow it
  pub record Linked (next : List ℕ → List ℕ → List ℕ → Cursor → Type 0) (ws : List Waiting) (top : ℕ) (r s m : List ℕ) (u : Cursor) (first from : ℕ) : Type 0 where
    pub rows₀ : List ℕ
    pub records₀ : List ℕ
    pub notes₀ : List ℕ
    pub said₀ : ℕ
    pub spare : Spare ks records₀ top (cursor first from said₀)
    pub room : 6 * top ≤ length rows₀
    pub deep : length s ≡ length records₀
    pub plain : awaits_operand ws ≡ false → is_async_name (sheet_of ks fs) first ≡ false
    pub grouped : Grouped ks fs rows₀ records₀ notes₀ (floor_of ks ws) first from said₀ r s m u u.at
    pub starts : Starts next (begun ks ws first) rows₀ records₀ notes₀ (cursor first from said₀)

  -- an operator's right operand has ended: its row has room, and once it is made a group was read
  pub record OperationEnds (linked : List ℕ → List ℕ → Cursor → Type 0) (r s : List ℕ) (top : ℕ) (d : Cursor) (mark first left from : ℕ) : Type 0 where
    pub room : 6 * d.rows + 6 ≤ 6 * top
    pub deep : 2 * d.records + 2 ≤ length s
    pub rows_small : d.rows ≤ 2048
    pub records_small : d.records ≤ 2048
    pub place_small : d.at ≤ 2048
    pub mark_small : mark ≤ 2048
    pub first_small : first ≤ 2048
    pub from_before : from < left
    pub left_before : left < d.rows
    pub made : (r' s' : List ℕ) (u : Cursor) → length r' ≡ length r → length s' ≡ length s → Finished ks r s d mark first left from r' s' u → linked r' s' u

  -- the last part of a row has ended: the row has room, and once it is made comes what is next
  pub record PartEnds (next : List ℕ → Cursor → Type 0) (operand : Bool) (r : List ℕ) (top : ℕ) (d : Cursor) (kind mark first kids from : ℕ) : Type 0 where
    pub no_operand : operand ≡ false
    pub fits : TopRoom (6 * top) d mark first d.at kids from
    pub made : (r' : List ℕ) (u : Cursor) → Topped r d kind mark first d.at kids from r' u → next r' u

  -- the middle part of a Conditional has ended: a `:` and its last part follow
  pub record ChoiceEnds (next : List ℕ → List ℕ → List ℕ → Cursor → Type 0) (operand : Bool) (r s m : List ℕ) (top : ℕ) (d : Cursor) (mark first from : ℕ) : Type 0 where
    pub spare : Spare ks s (top - 1) d
    pub no_colon : (get_or ks d.at 0 ≡ Colon → ⊥) → Comes-all r s m (Err (Cause.Unexpected d.at))
    pub colon : get_or ks d.at 0 ≡ Colon → Starts (λ r' s' m' e. PartEnds (λ r'' u. next r'' s' m' u) operand r' top e Row.Conditional mark first 3 from) (assignment (d.at + 1)) r s m (cursor (d.at + 1) d.rows d.records)

  unfoldable pub Ends : ℕ → List Waiting → List ℕ → List ℕ → List ℕ → Cursor → Type 0  -- a part has ended, and these wait, up to the row `base`
  Ends base [] r s m d = Comes-all r s m (Ok d)
  Ends base (operation mark first left from ∷ ws) r s m d =
      OperationEnds (λ r' s' u. Linked (Ends base ws) ws (base - length ws) r' s' m u first from) r s (base - length ws) d mark first left from
  Ends base (part kind mark first kids from _ _ ∷ ws) r s m d = PartEnds (λ r' u. Ends base ws r' s m u) (awaits_operand ws) r (base - length ws) d kind mark first kids from
  Ends base (choice mark first from ∷ ws) r s m d = ChoiceEnds (Ends base ws) (awaits_operand ws) r s m (base - length ws) d mark first from

  -- these wait, and an expression or an operand starts here, from a place on
  pub record Awaits (m r s : List ℕ) (base top : ℕ) (part : Bool) (past : ℕ) (c : Cursor) : Type 0 where
    pub waiting : List Waiting
    pub held : Held ks r top base waiting
    pub forward : past ≤ c.at
    pub spare : Spare ks s top c
    pub operand : awaits_operand waiting ≡ not part
    pub starts : Starts (Ends base waiting) (if part then assignment c.at else binary (floor_of ks waiting) c.at) r s m c
