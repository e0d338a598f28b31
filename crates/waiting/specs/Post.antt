-- What the functions on rows that wait promise. r and s are the words of rows and records before, r' and s' those after.
use Rattle.std.specs.Prelude.{◌+◌, ◌-◌, ◌*◌, ◌≤◌, ◌<◌, ◌≡◌, ◌++◌, if◌then◌else◌, Result, Ok, Err}
use Rattle.rows.specs.Base.{ℕ, Bool, true, false, not, List, leb, ltb, length, get_or, take, drop, ◌and◌, ◌is◌, Cause}
use Rattle.tokens.specs.Kind.{LCurly, Colon, Arrow, Eq}
use Rattle.operators.specs.Precedence.{expression_level}
use Rattle.rows.specs.Post.{Pushed, KindSet}
use Rattle.targets.specs.Outcome.{Conversion}
use Rattle.grammar.specs.{Binary.operation_kind, Binary.right_floor, Sheet.sheet_of, Job.assignment, Job.value, Job.unary, Job.body, Assignment.is_async_name}
use Rattle.build.specs.Post.{cursor, TopRoom, Leafed, Met, MetAfter, HeadFits, Refused}
use Rattle.build.specs.{declared.cursor.Cursor.Cursor, Post.Step, Operation.Finished}
use Rattle.heads.specs.declared.Head.{Head}
use Rattle.waiting.specs.Waiting.{kind_for, Breaks, Waiting, is_operation, awaits_operand, Whole, Held, Comes-all, Ends, Linked, Awaits, Choice}
use Rattle.waiting.specs.{declared.Group.Group, declared.Next.Next, declared.Spot.Spot, declared.Start.Start}
use Rattle.rows.specs.Row as Row
use Rattle.roles.specs.Meaning as means
use Rattle.targets.specs.Post as Targets

abbrev pub word : List ℕ → ℕ → ℕ → ℕ  -- a word of a row
word r n i = get_or r (6 * n + i) 0

abbrev pub spot : Cursor → ℕ → Bool → Spot  -- where a part or an operand starts
spot c top part = record { here = c; top = top; part = part }

abbrev pub operand_of : Cursor → Spot → Group  -- the group of an operand
operand_of d n = record { end = d; first = n.here.at; from = n.here.rows; top = n.top }

-- the innermost row that waits is an operator's, and its right operand ends before an operator of this level
abbrev pub ends_operand : List ℕ → ℕ → ℕ → ℕ → Bool
ends_operand r top base level = if ltb top base then (if is_operation (get_or r (6 * top) 0) then leb level (word r top 4) else false) else false

pub record OperationFits (r s : List ℕ) (g : Group) : Type 0 where  -- an operator waits in the row `top`, and there is room for its row and its record
  pub inside : 6 * g.top + 6 ≤ length r
  pub room : g.end.rows ≤ g.top
  pub deep : 2 * g.end.records + 2 ≤ length s
  pub rows_small : g.end.rows ≤ 2048
  pub records_small : g.end.records ≤ 2048
  pub place_small : g.end.at ≤ 2048
  pub mark_small : word r g.top 1 ≤ 2048
  pub first_small : word r g.top 2 ≤ 2048
  pub from_before : word r g.top 5 < word r g.top 3
  pub left_before : word r g.top 3 < g.end.rows

-- its row was made by the words that waited, below the rows that still wait
pub record FinishedOperation (ks r s : List ℕ) (g : Group) (r' s' : List ℕ) (u : Group) : Type 0 where
  pub first : u.first ≡ word r g.top 2
  pub from : u.from ≡ word r g.top 5
  pub top : u.top ≡ g.top + 1
  pub low : List ℕ
  pub long : length low ≡ 6 * (g.top + 1)
  pub made : Finished ks (take (6 * (g.top + 1)) r) s g.end (word r g.top 1) (word r g.top 2) (word r g.top 3) (word r g.top 5) low s' u.end
  pub text : r' ≡ low ++ drop (6 * (g.top + 1)) r

pub record WaitFits (words : ℕ) (g : Group) : Type 0 where  -- there is room for one more row that waits
  pub some : 1 ≤ g.top
  pub inside : 6 * g.top ≤ words
  pub place_small : g.end.at ≤ 2048
  pub rows_small : g.end.rows ≤ 2048
  pub first_small : g.first ≤ 2048
  pub from_small : g.from ≤ 2048

pub record WaitsOperand (ks r : List ℕ) (g : Group) (r' : List ℕ) (x : Result Next Cause) : Type 0 where  -- an operator waits
  pub gives : x ≡ Ok (Next.Read (spot (cursor (g.end.at + 1) g.end.rows g.end.records) (g.top - 1) false))
  pub pushed : Pushed r (g.top - 1) (operation_kind (get_or ks g.end.at 0)) g.end.at g.first g.end.rows (right_floor (get_or ks g.end.at 0)) g.from r'

pub record WaitsChoice (r : List ℕ) (g : Group) (r' : List ℕ) (x : Result Next Cause) : Type 0 where  -- a Conditional waits for its `:`
  pub gives : x ≡ Ok (Next.Read (spot (cursor (g.end.at + 1) g.end.rows g.end.records) (g.top - 1) true))
  pub pushed : Pushed r (g.top - 1) 0 g.end.at g.first 0 3 g.from r'

-- an assignment's left side was converted below the rows that wait, and the assignment waits; or it was refused
pub record RightRefused (r : List ℕ) (g : Group) (low r' : List ℕ) (cause : Cause) (x : Result Next Cause) : Type 0 where
  pub gives : x ≡ Err cause
  pub text : r' ≡ low ++ drop (6 * g.top) r

pub record RightWaits (ks r : List ℕ) (g : Group) (low r' : List ℕ) (count : ℕ) (x : Result Next Cause) : Type 0 where
  pub gives : x ≡ Ok (Next.Read (spot (cursor (g.end.at + 1) g.end.rows (g.end.records + count)) (g.top - 1) true))
  pub pushed : Pushed (low ++ drop (6 * g.top) r) (g.top - 1) (kind_for (get_or ks g.end.at 0 is Eq)) g.end.at g.first 0 2 g.from r'

pub record WaitsRight (ks r s : List ℕ) (g : Group) (r' s' : List ℕ) (x : Result Next Cause) : Type 0 where
  pub low : List ℕ
  pub long : length low ≡ 6 * g.top
  pub turned : Conversion
  pub converted : Targets.RowConverted (take (6 * g.top) r) s (g.end.rows - 1) (means.aim (not (get_or ks g.end.at 0 is Eq))) g.end.records low s' turned
  pub refused : (cause : Cause) → turned ≡ Err cause → RightRefused r g low r' cause x
  pub waits : (count : ℕ) → turned ≡ Ok count → RightWaits ks r g low r' count x

pub record BodyFits (words records : ℕ) (d : Cursor) (h : Head) (top : ℕ) : Type 0 where  -- there is room for an arrow that waits, and for its record
  pub some : 1 ≤ top
  pub inside : 6 * top ≤ words
  pub place_small : d.at ≤ 2048
  pub deep : 2 * d.records + 2 ≤ records
  pub records_small : d.records ≤ 2048
  pub first_small : h.first ≤ 2048
  pub kids_small : h.kids ≤ 2048
  pub from_small : h.from ≤ 2048

-- a block as body, and nothing changes; or past its `=>`, with a record if a line break stands before it, an arrow waits
pub record BodyRefused (r s : List ℕ) (d : Cursor) (r' s' : List ℕ) (x : Result Next Cause) : Type 0 where
  pub gives : x ≡ Err (Cause.Unexpected (d.at + 1))
  pub rows_same : r' ≡ r
  pub records_same : s' ≡ s

pub record BodyWaits (fs r s : List ℕ) (d : Cursor) (h : Head) (top : ℕ) (r' s' : List ℕ) (x : Result Next Cause) : Type 0 where
  pub c : Cursor
  pub gives : x ≡ Ok (Next.Read (spot c (top - 1) true))
  pub breaks : Breaks fs s d s' c
  pub pushed : Pushed r (top - 1) h.kind d.at h.first 0 (h.kids + 1) h.from r'

pub record WaitsBody (ks fs r s : List ℕ) (d : Cursor) (h : Head) (top : ℕ) (r' s' : List ℕ) (x : Result Next Cause) : Type 0 where
  pub block : get_or ks (d.at + 1) 0 ≡ LCurly → BodyRefused r s d r' s' x
  pub waits : (get_or ks (d.at + 1) 0 ≡ LCurly → ⊥) → BodyWaits fs r s d h top r' s' x

pub record LastPartFits (r : List ℕ) (c : Cursor) (top : ℕ) : Type 0 where  -- a row waits for its last part in the row `top`, and there is room for it
  pub inside : 6 * top + 6 ≤ length r
  pub fits : TopRoom (6 * (top + 1)) c (word r top 1) (word r top 2) c.at (word r top 4) (word r top 5)

pub record Colons (r : List ℕ) (c : Cursor) (top : ℕ) (r' : List ℕ) (x : Result Next Cause) : Type 0 where  -- a Conditional at its `:`
  pub gives : x ≡ Ok (Next.Read (spot (cursor (c.at + 1) c.rows c.records) top true))
  pub set : KindSet r top Row.Conditional r'

pub record NoColon (r : List ℕ) (c : Cursor) (r' : List ℕ) (x : Result Next Cause) : Type 0 where
  pub gives : x ≡ Err (Cause.Unexpected c.at)
  pub same : r' ≡ r

pub record Otherwise (ks r : List ℕ) (c : Cursor) (top : ℕ) (r' : List ℕ) (x : Result Next Cause) : Type 0 where
  pub colon : get_or ks c.at 0 ≡ Colon → Colons r c top r' x
  pub no_colon : (get_or ks c.at 0 ≡ Colon → ⊥) → NoColon r c r' x

abbrev pub opens_body : List ℕ → List ℕ → Group → Bool  -- `=>` stands after a group that is one Identifier
opens_body ks r g = get_or ks g.end.at 0 is Arrow and word r (g.end.rows - 1) 0 is Row.Identifier

abbrev pub name_head : Group → Head  -- the arrow of one name
name_head g = record { kind = Row.Arrow; first = g.first; from = g.from; kids = 1 }

-- the row of a binding was written over that of the name, and the arrow waits
pub record NameBody (ks fs r s : List ℕ) (g : Group) (r' s' : List ℕ) (x : Result Next Cause) : Type 0 where
  pub named : List ℕ
  pub long : length named ≡ length r
  pub d : Cursor
  pub leafed : Leafed r (cursor g.first g.from g.end.records) Row.BindingName named d
  pub waits : WaitsBody ks fs named s (cursor g.end.at d.rows d.records) (name_head g) g.top r' s' x

-- past a place, what is read next, and what waits for it; or what the whole comes to
pub record Goes (ks fs : List ℕ) (all : Whole) (m : List ℕ) (at : ℕ) (r s : List ℕ) (base : ℕ) (x : Result Next Cause) : Type 0 where
  pub reads : (n : Spot) → x ≡ Ok (Next.Read n) → Awaits ks fs all m r s base n.top n.part (at + 1) n.here
  pub ended : (c : Cursor) → x ≡ Ok (Next.Ended c) → Comes-all ks fs all r s m (Ok c)
  pub refused : (cause : Cause) → x ≡ Err cause → Comes-all ks fs all r s m (Err cause)

-- a part has ended at a cursor, and these wait, no operator first
pub record PartAt (ks fs : List ℕ) (all : Whole) (m : List ℕ) (ws : List Waiting) (r s : List ℕ) (c : Cursor) (top base : ℕ) : Type 0 where
  pub held : Held ks r top base ws
  pub no_operand : awaits_operand ws ≡ false
  pub ends : Ends ks fs all base ws r s m c

pub record PartEnding (ks r : List ℕ) (c : Cursor) (top base : ℕ) : Type 0 where
  pub fs : List ℕ
  pub all : Whole
  pub m : List ℕ
  pub s : List ℕ
  pub ws : List Waiting
  pub at : PartAt ks fs all m ws r s c top base

pub record PartEnded (ks r : List ℕ) (c : Cursor) (top base : ℕ) (r' : List ℕ) (x : Result Next Cause) : Type 0 where
  pub goes : (fs : List ℕ) (all : Whole) (m s : List ℕ) (ws : List Waiting) → PartAt ks fs all m ws r s c top base → Goes ks fs all m c.at r' s base x

-- a group was read, and these wait
pub record GroupAt (ks fs : List ℕ) (all : Whole) (m : List ℕ) (ws : List Waiting) (r s : List ℕ) (g : Group) (base : ℕ) : Type 0 where
  pub held : Held ks r g.top base ws
  pub linked : Linked ks fs all (Ends ks fs all base ws) ws g.top r s m g.end g.first g.from

pub record Grouping (ks fs r s : List ℕ) (g : Group) (base : ℕ) : Type 0 where
  pub all : Whole
  pub m : List ℕ
  pub ws : List Waiting
  pub at : GroupAt ks fs all m ws r s g base

pub record Followed (ks fs r s : List ℕ) (g : Group) (base : ℕ) (r' s' : List ℕ) (x : Result Next Cause) : Type 0 where
  pub goes : (all : Whole) (m : List ℕ) (ws : List Waiting) → GroupAt ks fs all m ws r s g base → Goes ks fs all m g.end.at r' s' base x

-- the same where the binary level ends: no operator waits, and none follows
pub record Level (ks fs r s : List ℕ) (g : Group) (base : ℕ) : Type 0 where
  pub grouping : Grouping ks fs r s g base
  pub no_operand : awaits_operand grouping.ws ≡ false
  pub no_operator : expression_level (get_or ks g.end.at 0) ≡ 0

pub record FollowedLevel (ks fs r s : List ℕ) (g : Group) (base : ℕ) (r' s' : List ℕ) (x : Result Next Cause) : Type 0 where
  pub goes : (all : Whole) (m : List ℕ) (ws : List Waiting) → GroupAt ks fs all m ws r s g base → awaits_operand ws ≡ false → expression_level (get_or ks g.end.at 0) ≡ 0 → Goes ks fs all m g.end.at r' s' base x

pub record StartFits (ks fs r s : List ℕ) (got : Result Start Cause) (n : Spot) (base : ℕ) : Type 0 where  -- past a start: what it asks for, by its cases
  pub opened : (d : Cursor) (h : Head) → got ≡ Ok (Start.Opened d h) → BodyFits (length r) (length s) d h n.top
  pub operand : (d : Cursor) → got ≡ Ok (Start.Operand d) → Grouping ks fs r s (operand_of d n) base

pub record StartFailed (r s r' s' : List ℕ) (cause : Cause) (x : Result Next Cause) : Type 0 where
  pub gives : x ≡ Err cause
  pub rows_same : r' ≡ r
  pub records_same : s' ≡ s

pub record AfterStart (ks fs r s : List ℕ) (got : Result Start Cause) (n : Spot) (base : ℕ) (r' s' : List ℕ) (x : Result Next Cause) : Type 0 where
  pub failed : (cause : Cause) → got ≡ Err cause → StartFailed r s r' s' cause x
  pub opened : (d : Cursor) (h : Head) → got ≡ Ok (Start.Opened d h) → WaitsBody ks fs r s d h n.top r' s' x
  pub operand : (d : Cursor) → got ≡ Ok (Start.Operand d) → Followed ks fs r s (operand_of d n) base r' s' x

-- What the reader of a start promises: a head was read, and whatever its body comes to, the assignment level does; or an operand was read, past a head that was
-- given up or without one; or the start was refused. First of a head that was read up to its `=>`:
pub record OpenedTo (ks fs r₀ s₀ m₀ r s m : List ℕ) (part : Bool) (at n k : ℕ) (d : Cursor) (h : Head) : Type 0 where
  pub is_part : part ≡ true
  pub fits : HeadFits ks d h
  pub forward : at < d.at
  pub more : n ≤ d.rows
  pub few : d.rows + at ≤ n + d.at
  pub said : d.records + at ≤ k + d.at
  pub no_operation : is_operation h.kind ≡ false
  pub no_choice : h.kind ≡ Choice → ⊥
  pub goes : (r' s' m' : List ℕ) (x : Step) → MetAfter ks fs r s m r' s' m' (body h.kind h.first d.at) h.from d.rows h.kids d.records x
      → Met ks fs r₀ s₀ m₀ r' s' m' (assignment at) n k x

-- an operand was read, from rows, records and notes from which the assignment level past a head is read
pub record OperandTo (ks fs r₀ s₀ m₀ r s m : List ℕ) (part : Bool) (at n k : ℕ) (d : Cursor) : Type 0 where
  pub rows₁ : List ℕ
  pub records₁ : List ℕ
  pub notes₁ : List ℕ
  pub rows_long : length rows₁ ≡ length r₀
  pub records_long : length records₁ ≡ length s₀
  pub plain : part ≡ true → is_async_name (sheet_of ks fs) at ≡ false
  pub past : part ≡ true → (r' s' m' : List ℕ) (x : Step) → Met ks fs rows₁ records₁ notes₁ r' s' m' (value at) n k x → Met ks fs r₀ s₀ m₀ r' s' m' (assignment at) n k x
  pub rows_same : part ≡ false → rows₁ ≡ r₀
  pub records_same : part ≡ false → records₁ ≡ s₀
  pub notes_same : part ≡ false → notes₁ ≡ m₀
  pub read : Met ks fs rows₁ records₁ notes₁ r s m (unary at) n k (Ok d)

pub record MetStart (ks fs r₀ s₀ m₀ r s m : List ℕ) (part : Bool) (at n k : ℕ) (x : Result Start Cause) : Type 0 where
  pub opened_to : (d : Cursor) (h : Head) → x ≡ Ok (Start.Opened d h) → OpenedTo ks fs r₀ s₀ m₀ r s m part at n k d h
  pub operand_to : (d : Cursor) → x ≡ Ok (Start.Operand d) → OperandTo ks fs r₀ s₀ m₀ r s m part at n k d
  pub fail_at : (cause : Cause) → x ≡ Err cause → Refused ks fs r₀ s₀ m₀ r s m (if part then assignment at else unary at) n k cause
