-- What the box prints (RULES F3): the text of an answer, byte by byte in ASCII.
use Rattle.std.specs.Prelude.{◌+◌, ◌*◌, ◌/◌, ◌%◌, ◌∷◌, ◌++◌, if◌then◌else◌}
use Prim.Native.Char.{code}
use Prim.Native.String.{String}
use Rattle.tokens.specs.Bool.{ℕ, zero, suc, List, [], ltb, get_or}
use Rattle.tokens.specs.{Cause.number, Cause.place, declared.cause.Answer.Answer}
use Prim.Native.String as Text

abbrev pub ascii : String → List ℕ  -- the bytes of a text in ASCII
ascii Text.[] = []
ascii (Text.◌∷◌ c s) = code c ∷ ascii s

unfoldable pub last_digits : ℕ → ℕ → List ℕ  -- the last digits of a number, at most so many, with no zero in front: 48 is the digit 0
last_digits zero n = []
last_digits (suc count) n = (if ltb n 10 then [] else last_digits count (n / 10)) ++ ((48 + n % 10) ∷ [])

unfoldable pub decimal : ℕ → List ℕ  -- a decimal number: all its digits, of which n has at most n + 1
decimal n = last_digits (suc n) n

abbrev pub space : ℕ
space = 32

abbrev pub newline : ℕ
newline = 10

unfoldable pub line : List ℕ → List ℕ  -- numbers with single spaces between them, and a newline
line [] = newline ∷ []
line (n ∷ []) = decimal n ++ (newline ∷ [])
line (n ∷ m ∷ ns) = decimal n ++ (space ∷ line (m ∷ ns))

unfoldable pub words_from : List ℕ → ℕ → ℕ → List ℕ  -- so many words from a place on; past the end a word reads as 0
words_from words at zero = []
words_from words at (suc count) = get_or words at 0 ∷ words_from words (at + 1) count

abbrev pub line_of : List ℕ → ℕ → ℕ → List ℕ  -- words in groups of a width, counted from 0: the line of the group n
line_of words width n = line (words_from words (width * n) width)

unfoldable pub lines_from : List ℕ → ℕ → ℕ → ℕ → List ℕ  -- the lines of so many groups, from the group n on
lines_from words width n zero = []
lines_from words width n (suc count) = line_of words width n ++ lines_from words width (n + 1) count

-- read: the three counts, a line a row of six words, a line a record of two; refused: number and place of the cause
unfoldable pub text : Answer → List ℕ → List ℕ → List ℕ
text (Answer.Read counts) rows records =
    ascii "read "
    ++ (line (counts.rows ∷ counts.records ∷ counts.abandoned ∷ [])
    ++ (lines_from rows 6 0 counts.rows ++ lines_from records 2 0 counts.records))
text (Answer.Refused cause) rows records = ascii "refused " ++ line (number cause ∷ place cause ∷ [])

abbrev pub bad_file : List ℕ  -- a file that is no sheet
bad_file = ascii "bad file\n"
