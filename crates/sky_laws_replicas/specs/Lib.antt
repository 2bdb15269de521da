pub mod LawsOfReplicas
