-- What the two entries answer and leave in the lent buffers, for any input: the definition's answer, the checks of room in their place among
-- the others, and every word of both buffers. `rows` and `records` are the words that the buffers hold before.
use Rattle.std.specs.Prelude.{◌-◌, ◌*◌, ◌≤◌, ◌++◌, if◌then◌else◌, ◌≡◌, Ok, Err}
use Rattle.rows.specs.Base.{ℕ, List, ltb, length, replicate, ◌and_then◌, check_length, check_flag_length, check_flags, check_kinds, check_nesting, Cause, Answer, Checked, flats, record_words}
use Rattle.grammar.specs.{Sheet.Sheet, Job.Job, Job.expression, Job.binding_element}
use Rattle.grammar.specs.Reading.{Whole, whole, refused, reading, box, cleared, answer_of}

pub record Given : Type 0 where  -- what an entry gives: its answer, and what the two lent buffers hold then
  pub answer : Answer
  pub rows : List ℕ
  pub records : List ℕ

abbrev pub check_room : List ℕ → List ℕ → ℕ → Cause → Checked  -- so many words lent per token
check_room kinds words each cause = if ltb (length words) (each * length kinds) then Err cause else Ok tt

unfoldable pub check_row_room : List ℕ → List ℕ → Checked  -- 3: fewer than 6 words lent per token
check_row_room kinds rows = check_room kinds rows 6 (Cause.RowRoom 0)

unfoldable pub check_record_room : List ℕ → List ℕ → Checked  -- 4: fewer than 2 record words per token
check_record_room kinds records = check_room kinds records 2 (Cause.RecordRoom 0)

unfoldable pub checks : Sheet → List ℕ → List ℕ → Checked  -- the checks in the order 1 to 7
checks sheet rows records =
    check_length sheet.kinds
    and_then check_flag_length sheet.kinds sheet.flags
    and_then check_row_room sheet.kinds rows
    and_then check_record_room sheet.kinds records
    and_then check_flags sheet.flags
    and_then check_kinds sheet.kinds
    and_then check_nesting sheet.kinds

unfoldable pub padded : List ℕ → ℕ → List ℕ  -- these words, and then 0 up to the buffer's length
padded words size = words ++ replicate (size - length words) 0

-- after 8 to 12 every word of both buffers is 0; after Read the words past the used ones are 0
unfoldable pub answered : List ℕ → List ℕ → Whole (List ℕ) → Given
answered rows records (whole trees said notes) =
    record {
      answer = answer_of (whole trees said notes);
      rows = padded (flats trees) (length rows);
      records = padded (record_words said) (length records);
    }
answered rows records (refused cause) =
    record { answer = Answer.Refused cause; rows = replicate (length rows) 0; records = replicate (length records) 0 }

unfoldable pub checked : List ℕ → List ℕ → Checked → Given → Given  -- after 1 to 7 both buffers hold what they held
checked rows records (Ok fine) given = given
checked rows records (Err cause) given = record { answer = Answer.Refused cause; rows = rows; records = records }

unfoldable pub entry : Job → Sheet → List ℕ → List ℕ → Given
entry job sheet rows records = checked rows records (checks sheet rows records) (answered rows records (reading (box sheet) sheet job cleared))

abbrev pub read_entry : Sheet → List ℕ → List ℕ → Given  -- the reader
read_entry sheet rows records = entry (expression 0) sheet rows records

abbrev pub pattern_entry : Sheet → List ℕ → List ℕ → Given  -- the pattern entry
pattern_entry sheet rows records = entry (binding_element 0) sheet rows records

-- r and s are the words of the rows and of the records afterwards, x is the answer
pub record Answers (g : Given) (r s : List ℕ) (x : Answer) : Type 0 where
  pub answer : x ≡ g.answer
  pub rows : r ≡ g.rows
  pub records : s ≡ g.records

pub record Ready (ks r s : List ℕ) : Type 0 where  -- there is room for a row and a record for each token
  pub short : length ks ≤ 2048
  pub wide : 6 * length ks ≤ length r
  pub deep : 2 * length ks ≤ length s
