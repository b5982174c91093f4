-- A prefix before what one rule writes, or what another writes with no prefix.
use Rattle.std.proofs.Common.{◌≡◌, suc, List, [], ◌∷◌, ◌++◌, length, Bool, true, false, cond, Option, Some, None, Ok, Err, refl, sym, ap, ◌∙◌}
use Rattle.task_lang.specs.declared.token.Token.{Token}
use Rattle.task_lang.specs.Rules.{Prefixed, plain, prefixed_by}
use Rattle.rcp_base.specs.Answers.{◌>>=◌}
use Rattle.task_lang.specs.ReaderParts.{Reader, enclosed, made, prefixed}
use Rattle.task_lang.proofs.ReadingLaws.{Stops, SoundAt, Lawful}
use Rattle.task_lang.proofs.Combining.{sound_under, alike_sound, behind_sound, made_sound, stop_sound}

-- what holds of the reader of what is enclosed: there is none only where nothing is derived
abbrev pub LawfulInside : {X : Type 0} → (List Token → X → Type 0) → (Token → Bool) → Option (Reader X) → Type 0
LawfulInside {X} Inside goes None = (tokens : List Token) (x : X) → Inside tokens x → ⊥
LawfulInside Inside goes (Some read) = Lawful Inside goes read

module _ {X : Type 0} (is : Token → Bool) (make : X → X) (Behind Plain : List Token → X → Type 0) (goes : Token → Bool) (read : Reader X)
    (lawful : Lawful Plain goes read) (refuses : (token : Token) (rest : List Token) → is token ≡ true → read (token ∷ rest) ≡ Err (suc (length rest))) where
  -- what is read with no prefix doesn't begin with one
  no_prefix : (token : Token) (rest left : List Token) (x : X) → read (token ∷ rest) ≡ Ok (x, left) → is token ≡ false
  no_prefix token rest left x reads = by_case (is token) refl
    where
      by_case : (b : Bool) → is token ≡ b → is token ≡ false
      by_case false same = same
      by_case true same = let refused : read (token ∷ rest) ≡ Err (suc (length rest)) = refuses token rest same in cc

  prefixed-plain : (inner : Option (Reader X)) (token : Token) (rest : List Token) → is token ≡ false
      → prefixed is make inner read (token ∷ rest) ≡ read (token ∷ rest)
  prefixed-plain inner token rest same =
      ap (λ b. cond b (enclosed inner (λ behind us. behind us >>= made make) (suc (length rest)) rest) (read (token ∷ rest))) same

  prefixed-behind : (inner : Option (Reader X)) (token : Token) (rest : List Token) → is token ≡ true
      → prefixed is make inner read (token ∷ rest) ≡ enclosed inner (λ behind us. behind us >>= made make) (suc (length rest)) rest
  prefixed-behind inner token rest same =
      ap (λ b. cond b (enclosed inner (λ behind us. behind us >>= made make) (suc (length rest)) rest) (read (token ∷ rest))) same

  -- what is read with no prefix is read so here
  plain_reads : (inner : Option (Reader X)) (tokens left : List Token) (x : X) → read tokens ≡ Ok (x, left) → prefixed is make inner read tokens ≡ Ok (x, left)
  plain_reads inner [] left x reads = reads
  plain_reads inner (token ∷ rest) left x reads = prefixed-plain inner token rest (no_prefix token rest left x reads) ∙ reads

  prefix_complete : (inner : Option (Reader X)) → LawfulInside Behind goes inner → {tokens : List Token} {x : X} → Prefixed is make Behind Plain tokens x
      → (rest : List Token) → Stops goes rest → prefixed is make inner read (tokens ++ rest) ≡ Ok (x, rest)
  prefix_complete inner law (plain tokens x derived) rest stops = plain_reads inner (tokens ++ rest) rest x (lawful.complete tokens rest x derived stops)
  prefix_complete None law (prefixed_by token tokens x same derived) rest stops = absurd (law tokens x derived)
  prefix_complete (Some inside) law (prefixed_by token tokens x same derived) rest stops =
      prefixed-behind (Some inside) token (tokens ++ rest) same ∙ ap (λ y. y >>= made make) (law.complete tokens rest x derived stops)

  -- with no prefix the answer is that of the rule below, which only the first token decides
  plain_alike : (inner : Option (Reader X)) (first : Token) (rest : List Token) → is first ≡ false
      → (front : List Token) (token : Token) (behind others : List Token) → first ∷ rest ≡ front ++ token ∷ behind
      → prefixed is make inner read (front ++ token ∷ others) ≡ read (front ++ token ∷ others)
  plain_alike inner first rest same [] token behind others cut =
      let head : first ≡ token = cc in prefixed-plain inner token others (sym (ap is head) ∙ same)
  plain_alike inner first rest same (second ∷ front) token behind others cut =
      let head : first ≡ second = cc in prefixed-plain inner second (front ++ token ∷ others) (sym (ap is head) ∙ same)

  no_front : (front : List Token) (token : Token) (behind : List Token) → [] ≡ front ++ token ∷ behind → ⊥
  no_front [] token behind cut = cc
  no_front (first ∷ front) token behind cut = cc

  prefix_sample : (tokens : List Token) × (x : X) × Prefixed is make Behind Plain tokens x
  prefix_sample = let some = lawful.sample in (some.0, some.1, plain some.0 some.1 some.2)

  plain_sound : (tokens : List Token) → SoundAt (Prefixed is make Behind Plain) read tokens (read tokens)
  plain_sound tokens = sound_under Plain (Prefixed is make Behind Plain) read tokens plain (read tokens) (lawful.sound tokens)

  prefix_sound : (inner : Option (Reader X)) → LawfulInside Behind goes inner → (tokens : List Token)
      → SoundAt (Prefixed is make Behind Plain) (prefixed is make inner read) tokens (prefixed is make inner read tokens)
  prefix_sound inner law [] =
      alike_sound (Prefixed is make Behind Plain) (prefixed is make inner read) read [] refl
      (λ front token behind others cut. absurd (no_front front token behind cut)) (plain_sound [])
  prefix_sound inner law (token ∷ rest) = by_case inner law (is token) refl
    where
      by_case : (inner : Option (Reader X)) → LawfulInside Behind goes inner → (b : Bool) → is token ≡ b
          → SoundAt (Prefixed is make Behind Plain) (prefixed is make inner read) (token ∷ rest) (prefixed is make inner read (token ∷ rest))
      by_case inner law false same =
          alike_sound (Prefixed is make Behind Plain) (prefixed is make inner read) read (token ∷ rest) (prefixed-plain inner token rest same)
          (plain_alike inner token rest same) (plain_sound (token ∷ rest))
      by_case None law true same =
          stop_sound (Prefixed is make Behind Plain) (prefixed is make None read) prefix_sample (token ∷ rest) (prefixed-behind None token rest same)
          (λ first behind others cut. let head : token ≡ first = cc in prefixed-behind None first others (sym (ap is head) ∙ same))
      by_case (Some inside) law true same =
          behind_sound (Prefixed is make Behind Plain) (prefixed is make (Some inside) read) (λ us. inside us >>= made make) token
          (λ others. prefixed-behind (Some inside) token others same) rest
          (made_sound Behind (λ front x. Prefixed is make Behind Plain (token ∷ front) x) make inside (λ tokens x derived. prefixed_by token tokens x same derived)
          rest (law.sound rest))

  pub prefix_lawful : (inner : Option (Reader X)) → LawfulInside Behind goes inner → Lawful (Prefixed is make Behind Plain) goes (prefixed is make inner read)
  prefix_lawful inner law = record {
    sound = prefix_sound inner law;
    complete = λ tokens rest x derived stops. prefix_complete inner law derived rest stops;
    sample = prefix_sample;
  }
