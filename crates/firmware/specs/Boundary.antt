-- The reply to the settings of a stream, as the seven plain numbers that the C firmware hands over.
use Rattle.std.specs.Prelude.{ℕ, cond}
use Rattle.wire.specs.declared.reply.Reply.{Reply}
use Rattle.wire.specs.declared.reply.Reply.TheVariants.{Done, BadSettings}
use Rattle.wire.specs.Settings.{settings, legal}

unfoldable pub settings_reply : (stream role class rd dc ra dd : ℕ) → Reply
settings_reply stream role class rd dc ra dd =
    cond (legal (record { 0 = stream }) (settings role class rd dc ra dd)) Done BadSettings
