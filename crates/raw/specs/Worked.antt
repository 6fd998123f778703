-- Cases of strict reading that compute: the culprits of refusals [02:2], of two, three and four bytes, where a key's comma is missed and an accented
-- letter, an ideograph or a picture stands; of a line's end, where an entry has no type; and a text that ends too early. Culprits of one byte are in
-- the edge table of `cases`. The proof of `Worked` is `worked` of proofs/Worked.antt.
-- Assumes nothing.
use Rattle.std.specs.Prelude.{ℕ, ◌≡◌}
use Rattle.text.specs.Strings.{utf8}
use Rattle.row.specs.declared.fault.Reason.{Reason}
use Rattle.row.specs.declared.fault.Reason.TheVariants.{UnexpectedEof, ExpectedIdentifier, ExpectedComma}
use Rattle.raw.specs.Reader.{Out, bad}
use Rattle.raw.specs.Read.{strict}

abbrev pub refused_at : Reason → ℕ → ℕ → Out
refused_at reason a e = bad (record { reason = reason; start = a; end = e })

pub record Worked : Type 0 where
  pub two : strict (utf8 "@a{k é,}") ≡ refused_at ExpectedComma 5 7
  pub three : strict (utf8 "@a{k 漢,}") ≡ refused_at ExpectedComma 5 8
  pub four : strict (utf8 "@a{k 😀,}") ≡ refused_at ExpectedComma 5 9
  pub line-end : strict (utf8 "@\n") ≡ refused_at ExpectedIdentifier 1 2
  pub text-end : strict (utf8 "@a{k,t={é") ≡ refused_at UnexpectedEof 10 10
