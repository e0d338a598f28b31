-- What the definitions of all crates take of numbers, tests, lists, tokens, trees and records, handed on from one place.
pub use Rattle.tokens.specs.Bool.{ℕ, zero, suc, max, false, Bool, true, not, List, [], eqb, leb, ltb, length, get_or, take, drop, replicate, set, ◌or◌, ◌and◌, ◌is◌, between}
pub use Rattle.rows.specs.Tree.{Forest, Tree, node, cons, one, count, nil, kind_of, first_of, size, flat, join, sizes, flats, end_of, mark_of, kids_of, row}
pub use Rattle.rows.specs.Record.{Record, rest_argument, rest_comma, compound_default, record_words, break_before_arrow, rest_initializer, mixed_coalesce, unary_power, shorthand_initializer}
pub use Rattle.tokens.specs.Check.{depth_after, ◌and_then◌, check_length, check_flag_length, check_flags, check_kinds, check_nesting}
pub use Rattle.tokens.specs.declared.cause.Cause.{Cause}
pub use Rattle.tokens.specs.Token.{is_name, is_word, is_literal, Sheet, kind_at, flag_at, sheet_of, token, break_before}
pub use Rattle.tokens.specs.declared.cause.Answer.{Answer}
pub use Rattle.tokens.specs.Cause.{number, place}
pub use Rattle.tokens.specs.Check.{Checked}
