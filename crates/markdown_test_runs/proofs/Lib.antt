pub mod LabelEndReady
