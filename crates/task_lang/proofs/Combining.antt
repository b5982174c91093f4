-- Laws of readers that are made of readers: one after the other, behind a token, and under a map.
use Rattle.std.proofs.Common.{◌≡◌, ℕ, suc, List, [], ◌∷◌, ◌++◌, length, Ok, Err, refl, sym, ap, ◌∙◌, subst, append_assoc}
use Rattle.task_lang.specs.declared.token.Token.{Token}
use Rattle.rcp_base.specs.Answers.{◌>>=◌}
use Rattle.task_lang.specs.ReaderParts.{Read, Reader, bound, made}
use Rattle.task_lang.proofs.ReadingLaws.{Reads, SoundAt, read_again}

pub bound-ok : {X Y : Type 0} (read : Reader X) (next : X → Reader Y) (tokens rest : List Token) (x : X) → read tokens ≡ Ok (x, rest)
    → bound read next tokens ≡ next x rest
bound-ok {X} read next tokens rest x is = ap (λ y. y >>= λ (got : X × List Token). next got.0 got.1) is

pub bound-err : {X Y : Type 0} (read : Reader X) (next : X → Reader Y) (tokens : List Token) (left : ℕ) → read tokens ≡ Err left
    → bound read next tokens ≡ Err left
bound-err {X} read next tokens left is = ap (λ y. y >>= λ (got : X × List Token). next got.0 got.1) is

module _ {X Y : Type 0} (First : List Token → X → Type 0) (Whole : List Token → Y → Type 0) (read : Reader X) (next : X → Reader Y)
    (ends : (tokens : List Token) (x : X) → First tokens x → (more : List Token) × (y : Y) × Whole (tokens ++ more) y) where
  bound_again : (tokens : List Token) (x : X) (rest : List Token) (at : Reads First read tokens x rest)
      (front : List Token) (token : Token) (behind others : List Token) → rest ≡ front ++ token ∷ behind
      → bound read next ((at.front ++ front) ++ token ∷ others) ≡ next x (front ++ token ∷ others)
  bound_again tokens x rest at front token behind others is =
      ap (bound read next) (append_assoc at.front front (token ∷ others))
      ∙ bound-ok read next _ _ x (read_again First read tokens x rest at front token behind others is)

  joined : (tokens : List Token) (x : X) (rest : List Token) (at : Reads First read tokens x rest) (y : Read Y)
      → SoundAt (λ front y. Whole (at.front ++ front) y) (next x) rest y → SoundAt Whole (bound read next) tokens y
  joined tokens x rest at (Ok got) then =
      record {
        front = at.front ++ then.front;
        cut = at.cut ∙ (ap (λ list. at.front ++ list) then.cut ∙ sym (append_assoc at.front then.front got.1));
        derived = then.derived;
        again = λ token behind others is.
            bound_again tokens x rest at then.front token behind others (then.cut ∙ ap (λ list. then.front ++ list) is) ∙ then.again token behind others is;
      }
  joined tokens x rest at (Err left) then =
      record {
        front = at.front ++ then.front;
        rest = then.rest;
        more = then.more;
        tree = then.tree;
        cut = at.cut ∙ (ap (λ list. at.front ++ list) then.cut ∙ sym (append_assoc at.front then.front then.rest));
        size = then.size;
        viable = subst (λ list. Whole list then.tree) (sym (append_assoc at.front then.front then.more)) then.viable;
        again = λ token behind others is.
            bound_again tokens x rest at then.front token behind others (then.cut ∙ ap (λ list. then.front ++ list) is) ∙ then.again token behind others is;
      }

  -- one reader, and another that is right where the first ends
  pub bound_sound_at : (tokens : List Token) → SoundAt First read tokens (read tokens)
      → ((front : List Token) (x : X) (rest : List Token) → First front x → tokens ≡ front ++ rest
      → SoundAt (λ more y. Whole (front ++ more) y) (next x) rest (next x rest))
      → SoundAt Whole (bound read next) tokens (bound read next tokens)
  bound_sound_at tokens sound then = by_answer (read tokens) refl sound
    where
      by_answer : (y : Read X) → read tokens ≡ y → SoundAt First read tokens y → SoundAt Whole (bound read next) tokens (bound read next tokens)
      by_answer (Ok got) is at =
          subst (SoundAt Whole (bound read next) tokens) (sym (bound-ok read next tokens got.1 got.0 is))
          (joined tokens got.0 got.1 at (next got.0 got.1) (then at.front got.0 got.1 at.derived at.cut))
      by_answer (Err left) is fault =
          let end = ends (fault.front ++ fault.more) fault.tree fault.viable in
          subst (SoundAt Whole (bound read next) tokens) (sym (bound-err read next tokens left is))
          (record {
            front = fault.front;
            rest = fault.rest;
            more = fault.more ++ end.0;
            tree = end.1;
            cut = fault.cut;
            size = fault.size;
            viable = subst (λ list. Whole list end.1) (append_assoc fault.front fault.more end.0) end.2;
            again = λ token behind others is. bound-err read next _ _ (fault.again token behind others is);
          })

  pub bound_sound : ((tokens : List Token) → SoundAt First read tokens (read tokens))
      → ((front : List Token) (x : X) → First front x → (tokens : List Token) → SoundAt (λ more y. Whole (front ++ more) y) (next x) tokens (next x tokens))
      → (tokens : List Token) → SoundAt Whole (bound read next) tokens (bound read next tokens)
  bound_sound sound then tokens = bound_sound_at tokens (sound tokens) (λ front x rest derived cut. then front x derived rest)

-- a rule that derives all that another does
pub sound_under : {X : Type 0} (Less More : List Token → X → Type 0) (read : Reader X) (tokens : List Token)
    → ((front : List Token) (x : X) → Less front x → More front x) → (y : Read X) → SoundAt Less read tokens y → SoundAt More read tokens y
sound_under Less More read tokens all (Ok got) at = record { front = at.front; cut = at.cut; derived = all at.front got.0 at.derived; again = at.again }
sound_under Less More read tokens all (Err left) fault =
    record {
      front = fault.front;
      rest = fault.rest;
      more = fault.more;
      tree = fault.tree;
      cut = fault.cut;
      size = fault.size;
      viable = all (fault.front ++ fault.more) fault.tree fault.viable;
      again = fault.again;
    }

-- a reader that answers as another does, at the tokens and wherever they are changed behind one of them
pub alike_sound : {X : Type 0} (Permits : List Token → X → Type 0) (read other : Reader X) (tokens : List Token) → read tokens ≡ other tokens
    → ((front : List Token) (token : Token) (behind others : List Token) → tokens ≡ front ++ token ∷ behind → read (front ++ token ∷ others) ≡ other (front ++ token ∷ others))
    → SoundAt Permits other tokens (other tokens) → SoundAt Permits read tokens (read tokens)
alike_sound {X} Permits read other tokens here same sound = subst (SoundAt Permits read tokens) (sym here) (by_answer (other tokens) sound)
  where
    by_answer : (y : Read X) → SoundAt Permits other tokens y → SoundAt Permits read tokens y
    by_answer (Ok got) at =
        record {
          front = at.front;
          cut = at.cut;
          derived = at.derived;
          again = λ token behind others is. same at.front token behind others (at.cut ∙ ap (λ list. at.front ++ list) is) ∙ at.again token behind others is;
        }
    by_answer (Err left) fault =
        record {
          front = fault.front;
          rest = fault.rest;
          more = fault.more;
          tree = fault.tree;
          cut = fault.cut;
          size = fault.size;
          viable = fault.viable;
          again = λ token behind others is.
              same fault.front token behind others (fault.cut ∙ ap (λ list. fault.front ++ list) is) ∙ fault.again token behind others is;
        }

-- behind one token
pub behind_sound : {X : Type 0} (Permits : List Token → X → Type 0) (read other : Reader X) (first : Token)
    → ((behind : List Token) → read (first ∷ behind) ≡ other behind) → (tokens : List Token)
    → SoundAt (λ front x. Permits (first ∷ front) x) other tokens (other tokens) → SoundAt Permits read (first ∷ tokens) (read (first ∷ tokens))
behind_sound {X} Permits read other first same tokens sound = subst (SoundAt Permits read (first ∷ tokens)) (sym (same tokens)) (by_answer (other tokens) sound)
  where
    by_answer : (y : Read X) → SoundAt (λ front x. Permits (first ∷ front) x) other tokens y → SoundAt Permits read (first ∷ tokens) y
    by_answer (Ok got) at =
        record {
          front = first ∷ at.front;
          cut = ap (λ list. first ∷ list) at.cut;
          derived = at.derived;
          again = λ token behind others is. same (at.front ++ token ∷ others) ∙ at.again token behind others is;
        }
    by_answer (Err left) fault =
        record {
          front = first ∷ fault.front;
          rest = fault.rest;
          more = fault.more;
          tree = fault.tree;
          cut = ap (λ list. first ∷ list) fault.cut;
          size = fault.size;
          viable = fault.viable;
          again = λ token behind others is. same (fault.front ++ token ∷ others) ∙ fault.again token behind others is;
        }

-- under a map of the tree
pub made_sound : {X Y : Type 0} (Permits : List Token → X → Type 0) (Makes : List Token → Y → Type 0) (make : X → Y) (read : Reader X)
    → ((tokens : List Token) (x : X) → Permits tokens x → Makes tokens (make x)) → (tokens : List Token) → SoundAt Permits read tokens (read tokens)
    → SoundAt Makes (λ list. read list >>= made make) tokens (read tokens >>= made make)
made_sound {X} Permits Makes make read to tokens sound = by_answer (read tokens) sound
  where
    by_answer : (y : Read X) → SoundAt Permits read tokens y → SoundAt Makes (λ list. read list >>= made make) tokens (y >>= made make)
    by_answer (Ok got) at =
        record {
          front = at.front;
          cut = at.cut;
          derived = to at.front got.0 at.derived;
          again = λ token behind others is. ap (λ y. y >>= made make) (at.again token behind others is);
        }
    by_answer (Err left) fault =
        record {
          front = fault.front;
          rest = fault.rest;
          more = fault.more;
          tree = make fault.tree;
          cut = fault.cut;
          size = fault.size;
          viable = to (fault.front ++ fault.more) fault.tree fault.viable;
          again = λ token behind others is. ap (λ y. y >>= made make) (fault.again token behind others is);
        }

-- nothing more is read
pub done_sound : {X : Type 0} (Permits : List Token → X → Type 0) (read : Reader X) (x : X) → Permits [] x → (tokens : List Token) → read tokens ≡ Ok (x, tokens)
    → ((token : Token) (behind others : List Token) → tokens ≡ token ∷ behind → read (token ∷ others) ≡ Ok (x, token ∷ others))
    → SoundAt Permits read tokens (read tokens)
done_sound Permits read x derived tokens is same =
    subst (SoundAt Permits read tokens) (sym is) (record { front = []; cut = refl; derived = derived; again = same })

-- the fault is at the first token
pub stop_sound : {X : Type 0} (Permits : List Token → X → Type 0) (read : Reader X) → (more : List Token) × (x : X) × Permits more x → (tokens : List Token)
    → read tokens ≡ Err (length tokens) → ((token : Token) (behind others : List Token) → tokens ≡ token ∷ behind → read (token ∷ others) ≡ Err (suc (length others)))
    → SoundAt Permits read tokens (read tokens)
stop_sound Permits read sample tokens is same =
    subst (SoundAt Permits read tokens) (sym is)
    (record { front = []; rest = tokens; more = sample.0; tree = sample.1; cut = refl; size = refl; viable = sample.2; again = same })
