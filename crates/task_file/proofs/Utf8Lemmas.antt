-- Bytes that are text, and others.
use Rattle.std.specs.Str.{is_utf8, IsUtf8}
use Rattle.std.proofs.Common.{◌≡◌, ℕ, List, Bool, true, false, None, Err, cond, ap, refl}
use Rattle.std.proofs.lemmas.Str.{IsUtf8-from_is_utf8, is_utf8-from_IsUtf8}
use Rattle.toml.specs.Parse.{parse_document}
use Rattle.rcp_base.specs.Answers.{found_or}
use Rattle.task_file.specs.inner.DocumentParts.{document_of_text}
use Rattle.task_file.specs.TaskFile.{document_of}
use Rattle.task_file.specs.declared.fault.FileFault.TheVariants as fault

pub text_is_read : (bytes : List ℕ) → IsUtf8 bytes → document_of bytes ≡ document_of_text bytes
unfolding document_of
text_is_read bytes is = ap (λ b. found_or fault.NotToml (cond b (parse_document bytes) None)) (is_utf8-from_IsUtf8 bytes is)

pub other_bytes_are_not : (bytes : List ℕ) → ¬ (IsUtf8 bytes) → document_of bytes ≡ Err fault.NotToml
unfolding document_of
other_bytes_are_not bytes is_not = never (is_utf8 bytes) (λ yes. is_not (IsUtf8-from_is_utf8 bytes yes))
  where
    never : (b : Bool) → (b ≡ true → ⊥) → found_or fault.NotToml (cond b (parse_document bytes) None) ≡ Err fault.NotToml
    never true not_true = absurd (not_true refl)
    never false not_true = refl
