-- What a delivery does, from what is done with the list.
use Rattle.std.proofs.Common.{◌≡◌, true, false, [], ◌∷◌, ◌++◌, refl}
use Rattle.ndis_base.specs.declared.ListStatus.TheVariants.{Success}
use Rattle.buffer_pools.specs.Views.{ListView}
use Rattle.stack_rules.specs.Tests.{is_echo, is_retain}
use Rattle.promise_rules.specs.declared.Called.TheVariants as called
use Rattle.driver_views.specs.States.{ProtocolState, called_for, logs}
use Rattle.driver_tray.specs.Tray.{TrayView, passed_back, noted}
use Rattle.driver_calls.specs.Protocols.{IsReceived, Echoes}
use Rattle.driver_calls.specs.Protocols.Echoes.{silent, lacking, echoing}
use Rattle.driver_calls.specs.Protocols.Settles.{retains, returns}
use Rattle.binding_protocols.specs.Protocols.{Answers}
use Rattle.binding_protocols.specs.Protocols.Answers.{lacks, answers}

-- an echo protocol answers
pub echoes_of : (s : ProtocolState) (l : ListView) (t t' : TrayView) → is_echo s.kind ≡ true → Answers l t t' → Echoes s l t t'
echoes_of s l t t' echo (lacks full same) = lacking echo full same
echoes_of s l t t' echo (answers some starts) = echoing echo some starts

-- a list that is returned at once, without an echo and behind one
pub received_plain : (s s' : ProtocolState) (l : ListView) (t t' : TrayView) → is_echo s.kind ≡ false → s' ≡ record s { did = logs l.frames (called_for called.Receive s.did); kept = s'.kept } → s'.kept ≡ s.kept
    → t' ≡ passed_back t l Success → IsReceived s l t s' t'
received_plain s s' l t t' no_echo now kept back = record { same = now; echoed = t; echo = silent no_echo refl; settles = returns kept back }

pub received_echo : (s s' : ProtocolState) (l : ListView) (t echoed t' : TrayView) → is_echo s.kind ≡ true → s' ≡ record s { did = logs l.frames (called_for called.Receive s.did); kept = s'.kept } → s'.kept ≡ s.kept
    → Answers l t echoed → t' ≡ passed_back echoed l Success → IsReceived s l t s' t'
received_echo s s' l t echoed t' echo now kept answer back = record { same = now; echoed = echoed; echo = echoes_of s l t echoed echo answer; settles = returns kept back }

-- a list that is kept
pub received_kept : (s s' : ProtocolState) (l : ListView) (t t' : TrayView) → is_echo s.kind ≡ false → is_retain s.kind ≡ true → s' ≡ record s { did = logs l.frames (called_for called.Receive s.did); kept = s'.kept }
    → s'.kept ≡ s.kept ++ l ∷ [] → t' ≡ noted t l.label.number → IsReceived s l t s' t'
received_kept s s' l t t' no_echo retain now kept keeps = record { same = now; echoed = t; echo = silent no_echo refl; settles = retains retain kept keeps }
