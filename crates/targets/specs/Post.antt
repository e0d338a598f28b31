-- What the contracts of the conversion say: the row is the root of a tree, what is found of it, and what is in both buffers after.
use Rattle.std.specs.Prelude.{◌+◌, ◌-◌, ◌*◌, ◌≤◌, ◌<◌, ◌^◌, ◌≡◌, ◌∷◌, ◌++◌, if◌then◌else◌, Ok, Err, Option}
use Rattle.rows.specs.Base.{ℕ, List, [], length, get_or, take, drop, set, Cause, Tree, node, size, flat, count, kind_of, first_of, kids_of, Forest, nil, cons, Record, rest_argument, record_words, Bool, true, false}
use Rattle.conversion.specs.Conversion.{turned, refused, convert_as, potential, Role, any, property, last_property}
use Rattle.targets.specs.Outcome.{Conversion}
use Rattle.rows.specs.Post.{KindSet}
use Rattle.roles.specs.{Meaning.commas, Meaning.kid, ShortCut.named_kind, ShortCut.is_element}
use Rattle.conversion.specs.Conversion as def
use Rattle.roles.specs.Meaning as means
use Rattle.targets.specs.Outcome as outcome
use Rattle.roles.specs.declared.plan.Plan.{Plan}
use Rattle.roles.specs.declared.plan.Plan.TheVariants.{WrongRest}
use Rattle.rows.specs.Row as row

-- a row of the words is the root of a tree: the words before its rows, the tree, and the words after
pub record Subtree (rows : List ℕ) (root : ℕ) : Type 0 where
  pub before : List ℕ
  pub tree : Tree
  pub after : List ℕ
  pub text : rows ≡ before ++ (flat tree ++ after)
  pub place : 6 * (root + 1) ≡ length before + 6 * size tree

unfoldable pub near : Tree → def.Seen  -- what the code looks at in a tree's root: an argument itself, and not through Parens
near (node kind mark first end kids) =
    record {
      kind = kind;
      mark = mark;
      first = first;
      kids = count kids;
      last = kind_of (def.last_of kids);
      in_array = [];
      in_object = if def.is_array_or_object (kind_of (def.last_of kids)) then rest_argument (first_of (def.last_of kids)) ∷ [] else [];
    }

pub record WordInside (words n word : ℕ) : Type 0 where  -- a word of a row, and the last word before a row, are inside of so many words
  pub room : 6 * n + word < words

pub record SizeInside (words end : ℕ) : Type 0 where
  pub some : 1 ≤ end
  pub room : 6 * end ≤ words

pub record FirstRow (rows : List ℕ) (root first : ℕ) : Type 0 where  -- the first row of the tree
  pub is : (h : Subtree rows root) → 6 * first ≡ length h.before

abbrev pub begins_of : Tree → ℕ  -- where the last kid of a row begins
begins_of t = first_of (def.last_of (kids_of t))

pub record PlanAt (rows : List ℕ) (root : ℕ) (role : def.Role) (of : Plan) : Type 0 where  -- the plan is what the row becomes in a role
  pub is : (h : Subtree rows root) → means.plan (begins_of h.tree) of ≡ def.change role (near h.tree)

pub record Own (of : Plan) (own : Conversion) : Type 0 where  -- what a row of that plan gives by itself
  pub is : (begins : ℕ) → own ≡ outcome.own (means.plan begins of)

-- what the conversion of a row will give stands before what was found of the rows after it
pub record Judged (rows : List ℕ) (root : ℕ) (role : def.Role) (rest found : Conversion) : Type 0 where
  pub is : (h : Subtree rows root) → found ≡ outcome.both (outcome.found (convert_as h.tree role)) rest

pub record Sums (one rest : Conversion) : Type 0 where  -- the records of both are not too many to count
  pub fits : (n m : ℕ) → one ≡ Ok n → rest ≡ Ok m → n + m < 2 ^ 64

pub record Counted (left : ℕ) (found : Conversion) : Type 0 where  -- nor are those that were found, with any that so many rows can give
  pub fits : (n : ℕ) → found ≡ Ok n → n + 4 * left < 2 ^ 64

-- the records stand from `start` on, and no other word is changed
pub record Filled (r₀ : List ℕ) (start : ℕ) (records : List Record) (r : List ℕ) : Type 0 where
  pub text : r ≡ take (2 * start) r₀ ++ (record_words records ++ drop (2 * (start + length records)) r₀)

pub record NoteFits (words end : ℕ) (records : List Record) : Type 0 where  -- these records have room before the record `end`
  pub room : length records ≤ end
  pub inside : 2 * end ≤ words

pub record Written (r₀ : List ℕ) (end : ℕ) (records : List Record) (r : List ℕ) (start : ℕ) : Type 0 where
  pub begins : start + length records ≡ end
  pub filled : Filled r₀ start records r

abbrev pub begins_before : List ℕ → ℕ → ℕ  -- where the row before a row begins
begins_before rows root = get_or rows (6 * (root - 1) + 2) 0

-- a row is there, and the one before it where that is looked at; the records before those of its kids have room
pub record FinishFits (rows : List ℕ) (root : ℕ) (of : Plan) (words start : ℕ) : Type 0 where
  pub row : 6 * root + 6 ≤ length rows
  pub low : (comma : Option ℕ) → of ≡ WrongRest comma → 1 ≤ root
  pub notes : NoteFits words start (means.before (begins_before rows root) of)

-- it has its kind, and those records are written
pub record Finished (rows₀ r₀ : List ℕ) (root : ℕ) (of : Plan) (start : ℕ) (rows r : List ℕ) (result : ℕ) : Type 0 where
  pub kind : KindSet rows₀ root (means.kind of) rows
  pub notes : Written r₀ start (means.before (begins_before rows₀ root) of) r result

-- a row can be converted, and its records have room before the record `end`
pub record Ready (rows : List ℕ) (root : ℕ) (role : def.Role) (words end : ℕ) : Type 0 where
  pub rooted : Subtree rows root
  pub made : Tree
  pub records : List Record
  pub accepted : convert_as rooted.tree role ≡ turned made records
  pub room : length records ≤ end
  pub inside : 2 * end ≤ words

-- the rows of a tree stand where those of another stood, and its records from `start` on
pub record Made (before after r₀ : List ℕ) (t : Tree) (start : ℕ) (records : List Record) (rows r : List ℕ) : Type 0 where
  pub text : rows ≡ before ++ (flat t ++ after)
  pub filled : Filled r₀ start records r

-- the row was converted, its records before the record `end`
pub record TurnedRow (rows₀ r₀ : List ℕ) (root : ℕ) (role : def.Role) (end : ℕ) (rows r : List ℕ) (start : ℕ) : Type 0 where
  pub is : (h : Subtree rows₀ root) (t : Tree) (records : List Record) → convert_as h.tree role ≡ turned t records
      → (start + length records ≡ end) × Made h.before h.after r₀ t start records rows r

-- the row is the root of a tree, and there is room for all that conversion could record of it
pub record Room (rows : List ℕ) (root words used : ℕ) : Type 0 where
  pub rooted : Subtree rows root
  pub room : 2 * (used + potential rooted.tree) ≤ words

-- the row was converted and its records added, or nothing was changed
pub record RowConverted (rows₀ r₀ : List ℕ) (root : ℕ) (role : def.Role) (used : ℕ) (rows r : List ℕ) (x : Conversion) : Type 0 where
  pub done : (h : Subtree rows₀ root) (t : Tree) (records : List Record) → convert_as h.tree role ≡ turned t records
      → (x ≡ Ok (length records)) × Made h.before h.after r₀ t used records rows r
  pub fail : (h : Subtree rows₀ root) (cause : Cause) → convert_as h.tree role ≡ refused cause → (x ≡ Err cause) × (rows ≡ rows₀) × (r ≡ r₀)

-- What the short cuts promise: where all there is to convert is one row, or one row and the row over it, what comes of it.
abbrev pub named_at : List ℕ → ℕ → ℕ  -- the kind that a row gets by itself
named_at rows n = named_kind (get_or rows (6 * n + 0) 0)

abbrev pub name_set : List ℕ → ℕ → ℕ → List ℕ  -- the words with a row turned, and the row over it
name_set rows root at = set (set rows (6 * at) (named_at rows at)) (6 * root) (named_at rows root)

-- all of the row's conversion is that one row is turned, or one row and the row over it, with no record
pub record Named (rows : List ℕ) (root : ℕ) (role : Role) (at : ℕ) (h : Subtree rows root) : Type 0 where
  pub made : Tree
  pub is : convert_as h.tree role ≡ turned made []
  pub text : name_set rows root at ≡ h.before ++ (flat made ++ h.after)

pub record NameAt (rows : List ℕ) (root : ℕ) (role : Role) (at : ℕ) : Type 0 where  -- so it is in this role
  pub is : (h : Subtree rows root) → Named rows root role at h

pub record NameBelow (rows : List ℕ) (root at : ℕ) : Type 0 where  -- so it is as a property, the last one or not
  pub order : at ≤ root
  pub is : (comma : Option ℕ) (last : Bool) → NameAt rows root (if last then last_property (commas comma) else property) at

pub record NameUnder (rows : List ℕ) (root : ℕ) (of : Plan) (at : ℕ) : Type 0 where  -- so it is as a kid, the last one or not, of a row of that plan
  pub order : at ≤ root
  pub is : (last : Bool) → NameAt rows root (kid of last) at

pub record NameInside (words root at : ℕ) : Type 0 where  -- in so many words both rows have room
  pub order : at ≤ root
  pub room : 6 * root + 6 ≤ words

pub record NameSet (rows : List ℕ) (root at : ℕ) (rows' : List ℕ) : Type 0 where
  pub text : rows' ≡ name_set rows root at

unfoldable pub all_elements : Forest → Bool  -- each of these becomes an element of an array by itself
all_elements nil = true
all_elements (cons t ts) = if is_element (kind_of t) then all_elements ts else false

pub record PlainArray (rows : List ℕ) (root : ℕ) (r : Bool) : Type 0 where  -- so it is, or not, with the kids of a row
  pub is : (h : Subtree rows root) → r ≡ all_elements (kids_of h.tree)

pub record PlainReady (rows : List ℕ) (root : ℕ) : Type 0 where
  pub rooted : Subtree rows root
  pub array : kind_of rooted.tree ≡ row.Array
  pub plain : all_elements (kids_of rooted.tree) ≡ true

pub record PlainTurned (rows₀ : List ℕ) (root : ℕ) (rows : List ℕ) : Type 0 where  -- the words are those of its conversion
  pub is : (h : Subtree rows₀ root) → kind_of h.tree ≡ row.Array → all_elements (kids_of h.tree) ≡ true → (t : Tree) (records : List Record)
      → convert_as h.tree any ≡ turned t records → rows ≡ h.before ++ (flat t ++ h.after)
