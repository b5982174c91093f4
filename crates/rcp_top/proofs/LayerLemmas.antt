-- A replay has one form, whichever layer its words name.
use Rattle.std.proofs.Common.{◌≡◌, ℕ, Bool, if◌then◌else◌, List, None, Some, refl, sym, ap, ◌∙◌}
use Rattle.rcp_base.specs.Files.{Files}
use Rattle.rcp_top.specs.Forms.{Form, form_of}
use Rattle.rcp_top.specs.Headline.{IsReplay}
use Rattle.rcp_top.specs.Laws.{AllLayersPrintTheSame}
use Rattle.rcp_top.specs.Outcome.{outcome_at, outcome_by, outcome_of}
use Rattle.rcp_top.specs.Reading.{end_over}
use Rattle.rcp_top.specs.Replay.{replay_of}

replay_form : (file journal : List ℕ) (words : List (List ℕ)) → IsReplay file journal words → form_of words ≡ Some (Form.replay file journal)
replay_form file journal _ IsReplay.alone = refl
replay_form file journal _ (IsReplay.by_layer layer is) =
    ap (λ (named : Bool). if named then Some (Form.replay file journal) else None) is

pub replay_due : (files : Files) (file journal : List ℕ) (words : List (List ℕ)) → IsReplay file journal words
    → outcome_of words files ≡ outcome_at (end_over files (replay_of file journal))
replay_due files file journal words is = ap (λ asked. outcome_by asked files) (replay_form file journal words is)

pub all_layers : AllLayersPrintTheSame
all_layers files file journal one other is_one is_other =
    replay_due files file journal one is_one ∙ sym (replay_due files file journal other is_other)
