-- Single tokens (RULES T2, T5 to T8): the kind and flag at a place, and what is a name, a word, a literal. And lists of tokens, by two lists of bytes (T1, T3).
use Rattle.tokens.specs.Bool.{ℕ, Bool, List, get_or, ◌or◌, ◌is◌, between}
use Rattle.tokens.specs.Kind.{Ident, Async, Modifier, Const, Null, False, RegExp, Await, Yield, Reserved, Typeof, New, Instanceof, In}

abbrev pub kind_at : List ℕ → ℕ → ℕ  -- a place is a token's index; past the end the kind reads as 0
kind_at kinds at = get_or kinds at 0

abbrev pub flag_at : List ℕ → ℕ → ℕ  -- and so does the flag
flag_at flags at = get_or flags at 0

unfoldable pub is_name : ℕ → Bool  -- names are kinds 1 to 5
is_name k = between Ident Modifier k

unfoldable pub is_word : ℕ → Bool  -- a word is any of 1 to 10, 14 to 17, 32 to 35, 52, 53
is_word k = between Ident False k or between Await Reserved k or between Typeof New k or between Instanceof In k

unfoldable pub is_literal : ℕ → Bool  -- literals are 8 to 13
is_literal k = between Null RegExp k

unfoldable pub is_binding_identifier : ℕ → Bool  -- what the three-way answer takes for a name: 1 to 5, 14, 15
is_binding_identifier k = between Ident Modifier k or between Await Yield k

unfoldable pub is_modifier_kind : ℕ → Bool  -- what the three-way answer takes for a modifier: 2, 5, 6, 53
is_modifier_kind k = between Modifier Const k or k is Async or k is In

pub record Sheet : Type 0 where  -- what a reading is given: the tokens' kinds, and the flags, 1 where a line break stands before the token
  pub kinds : List ℕ
  pub flags : List ℕ

abbrev pub sheet_of : List ℕ → List ℕ → Sheet  -- the sheet of two lists
sheet_of ks fs = record { kinds = ks; flags = fs }

abbrev pub token : Sheet → ℕ → ℕ  -- the kind at a place
token sheet at = kind_at sheet.kinds at

abbrev pub break_before : Sheet → ℕ → Bool  -- a line break stands before the token at a place
break_before sheet at = flag_at sheet.flags at is 1
